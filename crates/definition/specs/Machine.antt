-- "The stream and the keeping machine", and refusals 11 to 22. The keeping machine is the scope's word for the machine that drops no frame:
-- a stream's answers are to be this machine's.
use Rattle.std.specs.Prelude.{◌≡◌, ℕ, ◌+◌, ◌-◌, min, max, Bool, true, false, not, ◌&&◌, ◌||◌, length, get_or, set, replicate, eqb, leb, ltb, Float, if◌then◌else◌}
use mathlib.Core.List.{List, [], ◌∷◌, ◌++◌, map, foldl}
use Rattle.std.specs.Float.{binary32}
use Rattle.std.specs.Float.Ieee.{to_bits}
use Rattle.std.specs.Float.Ieee.Scale.{finite}
use Rattle.loops.specs.Lists.{those, any_of}
use Rattle.loops.specs.Refusal.{first_of, taken}
use Rattle.loops.specs.Ring.{rows_in}
use Rattle.floats.specs.Operators.{◌-₃₂◌, zero₆₄, at, sum₆₄}
use Rattle.floats.specs.Narrow.{narrowed}
use Rattle.definition.specs.declared.IvectorOptions.{IvectorOptions}
use Rattle.definition.specs.declared.Dimensions.{Dimensions}
use Rattle.definition.specs.declared.RingLengths.{RingLengths}
use Rattle.definition.specs.declared.StreamAnswer.{StreamAnswer}
use Rattle.definition.specs.Options.{within, max_window, max_frames}
use Rattle.definition.specs.Model.{Model, model_in_force}
use Rattle.definition.specs.Views.{Frames}
use Rattle.definition.specs.Statistics.{new_stats}
use Rattle.definition.specs.Solve.{prior_vector}
use Rattle.definition.specs.Changes.{Changes, changed, reached, batch}
use Rattle.definition.specs.Estimate.{Estimate, updated, nans_over}

pub data Call : Type 0 where
  push : List Float → Call
  finish : Call
  change : List ℕ → List Float → Call
  forget : ℕ → Call
  set_window : ℕ → Call  -- request 12
  fetch : ℕ → ℕ → Call  -- a frame, and the output's length

-- the numbers of an answer (refusal, frames held, rows held, elements of the vector not finite, likelihoods that were NaN), and the vector's
-- bits: only a fetch that is taken has a vector
pub record Answer : Type 0 where
  pub told : StreamAnswer
  pub vector : List ℕ

pub record Machine : Type 0 where
  pub history : List (List Float)  -- all accepted frames
  pub next : ℕ  -- the first frame not in the statistics
  pub changes : Changes
  pub finished : Bool
  pub estimate : Estimate  -- CMVN state, statistics, current vector
  pub mark : ℕ  -- no frame below it will be read again
  pub floor : ℕ  -- the highest frame named in a forget, 0 at first: no change may name a frame below it (request 8)
  pub window : ℕ  -- the window in force, that of the options at first (request 12)
  pub longest : ℕ  -- the longest window in force since the last rise of the mark: prefix rows are kept for it

abbrev pub machine : List (List Float) → ℕ → Changes → Bool → Estimate → ℕ → ℕ → ℕ → ℕ → Machine
machine h n c f e m l w g =
    record { history = h; next = n; changes = c; finished = f; estimate = e; mark = m; floor = l; window = w; longest = g }

-- the frames of a whole history; a prefix sum is that of the frames before it
unfoldable pub all_frames : List (List Float) → Frames
all_frames history =
    let frame : ℕ → ℕ → Float = λ t d. at (get_or history t []) d in
    record { accepted = length history; frame = frame; prefix = λ t d. sum₆₄ zero₆₄ t (λ k. frame k d) }

abbrev pub accepted : Machine → ℕ
accepted k = length k.history

unfoldable pub frames_held : ℕ → ℕ → ℕ
frames_held accepted mark = accepted - mark

-- prefix rows
unfoldable pub rows_held : ℕ → ℕ → ℕ → ℕ
rows_held longest accepted mark = accepted + 1 - (mark + 1 - longest)

-- whole changes that the waiting room has places for
abbrev pub waiting_room : RingLengths → ℕ
waiting_room z = min z.waiting_frames z.waiting_weights

-- `num_frames_ready`
unfoldable pub frames_ready : IvectorOptions → Bool → ℕ → ℕ
frames_ready o finished accepted = if finished then accepted else accepted - o.right_context

-- the new mark of a forget of frame f
unfoldable pub forgotten : ℕ → ℕ → ℕ → List ℕ → ℕ → ℕ
forgotten left next mark waiting f = max mark (foldl min (min f next) waiting - left)

-- the longest window after a forget that brings the mark to mark' (request 12): from a rise on it is the one in force
unfoldable pub longest_from : ℕ → ℕ → ℕ → ℕ → ℕ
longest_from window longest mark mark' = if ltb mark mark' then window else longest

-- "When a call is declined", 11 to 22, 30 of request 8, 31 and 32 of request 12: tests in checking order, each with its number
unfoldable pub push_tests : Dimensions → RingLengths → ℕ → ℕ → ℕ → List Float → List (Bool × ℕ)
push_tests d z longest accepted mark x =
    (not (eqb (length x) d.base_dim), 11)
    ∷ (any_of (λ v. not (finite v)) x, 12)
    ∷ (eqb accepted max_frames, 13)
    ∷ (eqb (frames_held accepted mark) (rows_in z.frames d.base_dim), 14)
    ∷ (eqb (rows_held longest accepted mark) (rows_in z.rows d.base_dim), 15) ∷ []

-- the entries of one call's change list (request 2)
abbrev pub max_changes : ℕ
max_changes = 384

-- n changes wait. From a fresh stream on 18 never occurs (`never-18` in proofs/Floor.antt): it is the record's 10 that leaves it no case.
unfoldable pub change_tests : IvectorOptions → RingLengths → ℕ → ℕ → ℕ → List ℕ → List Float → List (Bool × ℕ)
change_tests o z mark floor n fs ws =
    (not (eqb (length fs) (length ws)) || ltb max_changes (length fs), 16)
    ∷ (any_of (leb max_frames) fs || any_of (λ w. not (finite w)) ws, 17)
    ∷ (any_of (λ f. ltb f floor) fs, 30)
    ∷ (any_of (λ f. ltb (f - o.left_context) mark) fs, 18)
    ∷ (ltb (waiting_room z) (n + length fs), 19) ∷ []

-- a new window w: where it is above the longest, all rows from 0 on have to be held still
unfoldable pub window_tests : ℕ → ℕ → ℕ → List (Bool × ℕ)
window_tests longest mark w = (not (within 1 max_window w), 31) ∷ (ltb longest w && ltb longest (mark + 1), 32) ∷ []

-- an output of n numbers
unfoldable pub fetch_tests : Dimensions → ℕ → ℕ → Bool → ℕ → ℕ → ℕ → List (Bool × ℕ)
fetch_tests d ready next called past_highest f n =
    (not (eqb n d.ivector_dim), 20)
    ∷ (leb ready f, 21)
    ∷ (leb next f && called && leb past_highest f, 22) ∷ []

-- what a call does to the machine: its refusal number, and where that is 0 the machine afterwards, what is given out, and how many likelihoods
-- were NaN (request 4)
pub record Move : Type 0 where
  pub refusal : ℕ
  pub left : Machine
  pub gives : List Float
  pub nans : ℕ

abbrev pub move : List (Bool × ℕ) → Machine → List Float → ℕ → Move
move tests k v n = record { refusal = first_of tests; left = k; gives = v; nans = n }

-- the machine after a call, refused or not
abbrev pub moved : Machine → Move → Machine
moved k x = taken x.refusal x.left k

-- a vector's bits, and the count of its elements that are not finite
abbrev pub bits_of : List Float → List ℕ
bits_of v = map (to_bits binary32) v

unfoldable pub not_finite : List Float → ℕ
not_finite v = length (those (λ x. not (finite x)) v)

module _ (M : Model) where
  open M.info use {opts as o, dims as d, prior_offset as prior}
  open o use {left_context, cmn_window as window}
  open d use {ivector_dim as s, base_dim as dim}

  -- `IvectorStream::new`
  unfoldable pub fresh : Machine
  fresh =
      let estimate : Estimate = record { cmvn = replicate (dim + 1) zero₆₄; stats = new_stats s prior; current = prior_vector s prior } in
      machine [] 0 (record { waiting = []; past_highest = 0; called = false }) false estimate 0 0 window window

  -- what a fetch gives out: the current vector, narrowed, the prior taken off element 0
  unfoldable pub fetched : List Float → List Float
  fetched current = let v = map narrowed current in set v 0 (at v 0 -₃₂ narrowed prior)

  -- the machine after a fetch of frame f that is taken: where f is not in the statistics yet, they are brought up to it, by the window in force
  unfoldable pub caught_up : Machine → ℕ → Machine
  caught_up k f =
      let M' = model_in_force M k.window in
      let e = updated M' (all_frames k.history) (batch M'.info.opts k.changes k.next f) k.estimate in
      if leb k.next f then machine k.history (f + 1) (reached k.changes f) k.finished e k.mark k.floor k.window k.longest else k

  -- request 4: how many likelihoods of a fetch of frame f that is taken are NaN, over the batch that it brings in; 0 where it does no update
  unfoldable pub nans_met : Machine → ℕ → ℕ
  nans_met k f =
      let M' = model_in_force M k.window in
      let n = nans_over M' (all_frames k.history) (batch M'.info.opts k.changes k.next f) k.estimate.cmvn in
      if leb k.next f then n else 0

  -- the calls, with rings of lengths z
  unfoldable pub does : RingLengths → Machine → Call → Move
  does z k (push x) =
      move (push_tests d z k.longest (accepted k) k.mark x)
      (machine (k.history ++ (x ∷ [])) k.next k.changes k.finished k.estimate k.mark k.floor k.window k.longest) [] 0
  does z k finish = move [] (machine k.history k.next k.changes true k.estimate k.mark k.floor k.window k.longest) [] 0
  does z k (change fs ws) =
      move (change_tests o z k.mark k.floor (length k.changes.waiting) fs ws)
      (machine k.history k.next (changed k.changes fs ws) k.finished k.estimate k.mark k.floor k.window k.longest) [] 0
  does z k (forget f) =
      let mark = forgotten left_context k.next k.mark (map (λ c. c.0) k.changes.waiting) f in
      let longest = longest_from k.window k.longest k.mark mark in
      move [] (machine k.history k.next k.changes k.finished k.estimate mark (max k.floor f) k.window longest) [] 0
  does z k (set_window w) =
      move (window_tests k.longest k.mark w)
      (machine k.history k.next k.changes k.finished k.estimate k.mark k.floor w (max k.longest w)) [] 0
  does z k (fetch f n) =
      move (fetch_tests d (frames_ready o k.finished (accepted k)) k.next k.changes.called k.changes.past_highest f n)
      (caught_up k f) (fetched (caught_up k f).estimate.current) (nans_met k f)

  -- the numbers of an answer: refusal r, the held counts of machine k, n elements not finite, m likelihoods that were NaN
  unfoldable pub told_by : ℕ → Machine → ℕ → ℕ → StreamAnswer
  told_by r k n m =
      record {
        refusal = r;
        frames_held = frames_held (accepted k) k.mark;
        rows_held = rows_held k.longest (accepted k) k.mark;
        not_finite = n;
        nan_likelihoods = m;
      }

  -- the answer to a call
  unfoldable pub answer : Machine → Move → Answer
  answer k x =
      let v = taken x.refusal x.gives [] in
      record { told = told_by x.refusal (moved k x) (not_finite v) (taken x.refusal x.nans 0); vector = bits_of v }

  -- the machine after a list of calls, and its answers to them
  unfoldable pub machine_after : RingLengths → Machine → List Call → Machine
  machine_after z k [] = k
  machine_after z k (c ∷ cs) = machine_after z (moved k (does z k c)) cs

  unfoldable pub answers_from : RingLengths → Machine → List Call → List Answer
  answers_from z k [] = []
  answers_from z k (c ∷ cs) = answer k (does z k c) ∷ answers_from z (moved k (does z k c)) cs

  -- the keeping machine's answers to a list of calls, from a fresh stream
  unfoldable pub answers : RingLengths → List Call → List Answer
  answers z cs = answers_from z fresh cs

-- request 8: whatever model, lent lengths and calls, no answer is 18
abbrev pub Never18 : Type 0
Never18 = (M : Model) (z : RingLengths) (cs : List Call) → any_of (λ a. eqb a.told.refusal 18) (answers M z cs) ≡ false
