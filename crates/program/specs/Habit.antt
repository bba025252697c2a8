-- How long a stream's rooms have to be: rules that hold over every list of calls from a fresh stream, refused calls among them, so that a host which
-- keeps to a habit is never refused for want of room. F frames and R prefix rows are what the lent rooms hold.
use Rattle.std.specs.Prelude.{◌≡◌, Bool, true, false, not, ◌&&◌, ℕ, ◌+◌, ◌-◌, ◌≤◌, min, length, take, eqb, leb, ltb, Float, if◌then◌else◌}
use mathlib.Core.List.{List, [], ◌∷◌, ◌++◌, map, foldl, flatten}
use Rattle.std.specs.Float.Ieee.Scale.{finite}
use Rattle.loops.specs.Lists.{any_of, all_of}
use Rattle.loops.specs.Refusal.{taken}
use Rattle.loops.specs.Ring.{rows_in}
use Rattle.definition.specs.declared.IvectorInfo.{IvectorInfo}
use Rattle.definition.specs.Model.{Tables}
use Rattle.definition.specs.Options.{max_frames}
use Rattle.definition.specs.Machine.{Call, push, finish, change, forget, set_window, fetch, Answer, frames_held}
use Rattle.program.specs.Rooms.{Rooms}
use Rattle.program.specs.Session.{program_after}
use Rattle.program.specs.Played.{Played, ended, played_answers, took}

-- F and R
abbrev pub frame_room : IvectorInfo → Rooms → ℕ
frame_room i z = rows_in (length z.rings.frames) i.dims.base_dim

abbrev pub row_room : IvectorInfo → Rooms → ℕ
row_room i z = rows_in (length z.rings.rows) i.dims.base_dim

-- rows enough for windows of at most w frames, and frames enough for utterances of at most L frames
abbrev pub EnoughRows : IvectorInfo → Rooms → ℕ → Type 0
EnoughRows i z w = frame_room i z + w ≤ row_room i z

abbrev pub EnoughFrames : IvectorInfo → Rooms → ℕ → Type 0
EnoughFrames i z L = L + i.opts.left_context + i.opts.right_context ≤ frame_room i z

-- no answer is refusal r
abbrev pub Never : ℕ → List Answer → Type 0
Never r rs = any_of (λ a. eqb a.told.refusal r) rs ≡ false

-- ---- rows

-- the window that a call sets, 0 where it sets none
unfoldable pub window_of : Call → ℕ
window_of (push x) = 0
window_of finish = 0
window_of (change fs ws) = 0
window_of (forget f) = 0
window_of (set_window w) = w
window_of (fetch f n) = 0

-- with R at least F + w (`EnoughRows`) no push is refused 15, w being the options' window or more and no call setting one above it
abbrev pub RowsEnough : Type 0
RowsEnough =
    (i : IvectorInfo) (t : Tables) (s : Played i t) (w : ℕ)
    → i.opts.cmn_window ≤ w
    → all_of (λ c. leb (window_of c) w) s.calls ≡ true
    → EnoughRows i s.lent w
    → Never 15 (played_answers i t s)

-- ---- a forget

-- after any list of calls, a forget of f where the statistics have come to f and no change waits below it: at most the frames from f on, and the left
-- context, are held
abbrev pub HeldAfterForget : Type 0
HeldAfterForget =
    (i : IvectorInfo) (t : Tables) (s : Played i t) (f : ℕ)
    → let p = ended i t s in
    f ≤ p.stream.num_frames_stats
    → any_of (λ g. ltb g f) (take p.stream.waiting p.rooms.rings.waiting_frames) ≡ false
    → let q = program_after t s.scratch p (forget f ∷ []) in
    frames_held q.stream.accepted q.stream.mark ≤ length (took i t s) - f + i.opts.left_context

-- ---- a habit

-- what a host knows of its stream by its calls and their answers
pub record Ledger : Type 0 where
  pub frames : ℕ  -- pushes taken
  pub next : ℕ  -- the first frame that no fetch has reached
  pub clear : ℕ  -- below it every frame was reached, and no change came after that
  pub since : ℕ  -- pushes taken since an utterance began

abbrev pub ledger : ℕ → ℕ → ℕ → ℕ → Ledger
ledger frames next clear since = record { frames = frames; next = next; clear = clear; since = since }

-- after a call that is taken. An utterance begins with a forget where all frames but the last `right` are below the one named and clear: after a fetch of
-- the last ready frame, that is.
unfoldable pub entered : ℕ → Ledger → Call → Ledger
entered right b (push x) = ledger (b.frames + 1) b.next b.clear (b.since + 1)
entered right b finish = b
entered right b (change fs ws) = ledger b.frames b.next (foldl min b.clear fs) b.since
entered right b (forget f) = ledger b.frames b.next b.clear (if leb b.frames (min f b.clear + right) then 0 else b.since)
entered right b (set_window w) = b
entered right b (fetch f n) = if leb b.next f then ledger b.frames (f + 1) (f + 1) b.since else b

-- the habit: no push where an utterance has its L frames already
unfoldable pub may_come : ℕ → Ledger → Call → Bool
may_come L b (push x) = ltb b.since L
may_come L b finish = true
may_come L b (change fs ws) = true
may_come L b (forget f) = true
may_come L b (set_window w) = true
may_come L b (fetch f n) = true

unfoldable pub in_habit : ℕ → ℕ → Ledger → List Call → List Answer → Bool
in_habit L right b [] rs = true
in_habit L right b (c ∷ cs) [] = true
in_habit L right b (c ∷ cs) (a ∷ rs) = may_come L b c && in_habit L right (taken a.told.refusal (entered right b c) b) cs rs

-- a host in that habit is never refused 14 where F is at least L + left context + right context
abbrev pub FramesEnough : Type 0
FramesEnough =
    (i : IvectorInfo) (t : Tables) (s : Played i t) (L : ℕ)
    → EnoughFrames i s.lent L
    → in_habit L i.opts.right_context (ledger 0 0 0 0) s.calls (played_answers i t s) ≡ true
    → Never 14 (played_answers i t s)

-- ---- utterance after utterance

-- a host that hears utterances, with an output of n numbers: the frames of one are pushed, the last ready frame is fetched, and the frames so far are
-- forgotten. m frames are in before.
unfoldable pub hears : ℕ → ℕ → ℕ → List (List (List Float)) → List Call
hears right n m [] = []
hears right n m (xs ∷ us) =
    let m' = m + length xs in
    map push xs ++ (fetch (m' - (right + 1)) n ∷ forget m' ∷ hears right n m' us)

-- a frame that meets neither 11 nor 12
abbrev pub proper : ℕ → List Float → Bool
proper dim x = eqb (length x) dim && not (any_of (λ v. not (finite v)) x)

-- in rooms of these lengths every frame of every utterance is taken, whatever their number, up to `max_frames` frames
abbrev pub AllTaken : Type 0
AllTaken =
    (i : IvectorInfo) (t : Tables) (s : Played i t) (L : ℕ) (us : List (List (List Float)))
    → s.calls ≡ hears i.opts.right_context i.dims.ivector_dim 0 us
    → EnoughFrames i s.lent L
    → EnoughRows i s.lent i.opts.cmn_window
    → all_of (λ xs. leb (length xs) L && all_of (proper i.dims.base_dim) xs) us ≡ true
    → length (flatten us) ≤ max_frames
    → took i t s ≡ flatten us
