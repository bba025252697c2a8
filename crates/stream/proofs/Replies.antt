-- What a call that is taken returns and leaves, as the one equation of its contract: rooms part by part, the record of a change, a fresh stream.
use Rattle.std.specs.Prelude.{Ok, Err}
use mathlib.Core.Path.{◌≡◌, sym, ap, ◌∙◌}
use mathlib.Core.Bool.{true}
use mathlib.Core.List.{List}
use Prim.Native.Nat.{ℕ, ◌+◌}
use native.Mathlib.Omega.{arith}
use lib.ListN.{length, get_or}
use lib.Ieee.{Float}
use Rattle.loops.specs.Lists.{build}
use Rattle.loops.specs.Refusal.{taken}
use Rattle.loops.proofs.Build.{length_build}
use Rattle.loops.proofs.Refusal.{taken_new, taken_old}
use Rattle.floats.specs.Operators.{at}
use Rattle.definition.specs.declared.IvectorInfo.{IvectorInfo}
use Rattle.definition.specs.declared.IvectorStream.{IvectorStream}
use Rattle.definition.specs.declared.RoomLengths.{RoomLengths}
use Rattle.definition.specs.declared.TableLengths.{TableLengths}
use Rattle.definition.specs.declared.StreamCall.{StreamCall}
use Rattle.definition.specs.Changes.{Change, Changes, changed}
use Rattle.definition.specs.Stream.{new_refusal}
use Rattle.program.specs.Rooms.{Rings, rings_from, EstimateRooms, estimate_from, rooms_from, waiting_in, changes_in}
use Rattle.program.specs.Calls.{fresh_stream, new_answer, call_of, with_changes, RingStep, ring_call, done_on}
use Rattle.program.proofs.WaitingRooms.{length_waiting}
use Rattle.program.proofs.InOrder.{length_inserts}

-- ---- a call on record s and rings z that does x: n is its refusal number, c what is returned

module _ (s : IvectorStream) (z : Rings) (x : RingStep) {n : ℕ} (e : n ≡ x.refusal) where
  pub done : {c : StreamCall} {after : Rings} → n ≡ 0 → c ≡ call_of 0 x.stream 0 0 → after ≡ x.rings → ring_call c after ≡ done_on s z x
  done h g f = let new : x.refusal ≡ 0 = sym e ∙ h in rw (g, f, new)

-- ---- rooms, part by part

pub rings_are : {frames frames' rows rows' : List Float} {waiting waiting' : List ℕ} {weights weights' : List Float}
    → frames ≡ frames' → rows ≡ rows' → waiting ≡ waiting' → weights ≡ weights' → rings_from frames rows waiting weights ≡ rings_from frames' rows' waiting' weights'
rings_are a b c d = rw (a, b, c, d)

pub estimate_is : {cmvn cmvn' linear linear' quadratic quadratic' current current' : List Float}
    → cmvn ≡ cmvn' → linear ≡ linear' → quadratic ≡ quadratic' → current ≡ current' → estimate_from cmvn linear quadratic current ≡ estimate_from cmvn' linear' quadratic' current'
estimate_is a b c d = rw (a, b, c, d)

pub rooms_are : {rings rings' : Rings} {estimate estimate' : EstimateRooms} → rings ≡ rings' → estimate ≡ estimate' → rooms_from rings estimate ≡ rooms_from rings' estimate'
rooms_are a b = rw (a, b)

-- ---- the record of a change

module _ (s : IvectorStream) (z : Rings) (gs : List ℕ) (vs : List Float) where
  abbrev after : Changes
  after = changed (changes_in s z) gs vs

  changed_length : s.waiting + length gs ≡ length after.waiting
  unfolding changed
  changed_length =
      let given : List Change = build (length gs) (λ i. (get_or gs i 0, at vs i)) in
      let before = waiting_in s.waiting z.waiting_frames z.waiting_weights in
      sym (length_inserts before given
      ∙ omega (arith, length_waiting s.waiting z.waiting_frames z.waiting_weights, length_build {A = Change} (length gs) (λ i. (get_or gs i 0, at vs i))))

  pub changed_stream : {p : ℕ} → p ≡ after.past_highest
      → record {
        info = s.info;
        lengths = s.lengths;
        accepted = s.accepted;
        num_frames_stats = s.num_frames_stats;
        mark = s.mark;
        waiting = s.waiting + length gs;
        past_highest = p;
        delta_weights_provided = true;
        input_finished = s.input_finished;
        num_frames = s.num_frames;
        floor = s.floor;
        window = s.window;
        longest = s.longest;
      } ≡ with_changes s after s.num_frames_stats s.num_frames
  unfolding changed
  changed_stream e = rw (changed_length, e)

-- ---- a fresh stream

module _ {A : Type 0} (n : ℕ) (new old : A) where
  pub untouched : {r : ℕ} → r ≡ n → (r ≡ 0 → ⊥) → old ≡ taken n new old
  untouched e h = sym (taken_old n new old (λ z. h (e ∙ z)))

  pub written : {x : A} → 0 ≡ n → x ≡ new → x ≡ taken n new old
  written e h = h ∙ sym (taken_new n new old (sym e))

module _ (i : IvectorInfo) (t : TableLengths) (z : RoomLengths) where
  pub new_refused : {r : ℕ} → r ≡ new_refusal i t z → (r ≡ 0 → ⊥) → Err r ≡ new_answer i t z
  unfolding new_answer
  new_refused e h = ap Err e ∙ untouched (new_refusal i t z) _ _ e h

  pub new_done : {c : StreamCall} → 0 ≡ new_refusal i t z → c ≡ call_of 0 (fresh_stream i z) 0 0 → Ok c ≡ new_answer i t z
  unfolding new_answer
  new_done e g = written (new_refusal i t z) _ _ e (ap Ok g)
