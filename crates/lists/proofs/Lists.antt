-- What is left of a list of calls after one of them: a call as code plays it (`ring_turned`, `fetch_turned`), its answer written, and the invariant
-- `Left` of the loop over the list, which holds at first, after a call more, and says all at the end.
use mathlib.Core.Path.{◌≡◌, refl, sym, ap, ap₂, ◌∙◌}
use mathlib.Core.List.{List, [], ◌∷◌, ◌++◌}
use Prim.Native.Nat.{ℕ, ◌+◌, ◌-◌, ◌*◌, ◌≤◌, ◌<◌, min}
use native.Mathlib.Omega.{arith}
use lib.ListN.{length, take, drop, drop_of_length-le, length-drop}
use lib.Seq.{length-take-le}
use lib.Ieee.{Float}
use Rattle.loops.specs.Ring.{put}
use Rattle.loops.proofs.Build.{length_build, at_build}
use Rattle.loops.proofs.Parts.{drop_next}
use Rattle.definition.specs.declared.IvectorStream.{IvectorStream}
use Rattle.definition.specs.declared.StreamAnswer.{StreamAnswer}
use Rattle.definition.specs.declared.StreamCall.{StreamCall}
use Rattle.definition.specs.Model.{Tables}
use Rattle.definition.specs.Machine.{Call, finish, Answer}
use Rattle.program.specs.Rooms.{Rings, EstimateRooms, Rooms, rooms_from}
use Rattle.program.specs.Calls.{ring_call, done_on, set_cmn_window, fetch_call, fetched_on, get_frame}
use Rattle.program.specs.Session.{Program, program, stepped, step_of, reply, program_after, program_answers}
use Rattle.lists.specs.Listed.{part, of_kind, call_at, calls, numbers_of, Written, written, write, writes}
use Rattle.lists.specs.Turns.{coded_at, decoded, ring_step_of, Turned}
use Rattle.lists.specs.declared.run_calls.CodedCall.{CodedCall}
use Rattle.lists.proofs.Cut.{cut_length, put-nothing, over_nothing, lent_back}
use Rattle.lists.proofs.Branches.{Called, called_rings, called_window, called_fetch}

-- ---- a call as code plays it

-- a is the answer that is given for r, q the program by the record and the rooms that are left
module _ (t : Tables) (n : ℕ) (p : Program) (c c' : Call) (b : ℕ) (outs : List ℕ) (r : StreamCall) (z : Rooms) (out out' : List ℕ) (a : StreamAnswer) (q : Program) where
  turned : {outs' : List ℕ} → c ≡ c' → Called t n p c r z out out'
      → outs' ≡ put (min b (length outs)) (reply p (step_of t n p c)).vector outs
      → a ≡ r.answer → q ≡ program r.stream z
      → Turned t n p c' b outs a q outs'
  turned e h g told left =
      record {
        step = ap (λ (c : Call). stepped p (step_of t n p c)) (sym e) ∙ h.step ∙ sym left;
        told_is = ap (λ (c : Call). (reply p (step_of t n p c)).told) (sym e) ∙ h.told_is ∙ sym told;
        outs_are = g ∙ ap (λ (c : Call). put (min b (length outs)) (reply p (step_of t n p c)).vector outs) e;
      }

module _ (k : CodedCall) (lists : List ℕ) (samples : List Float) (t : Tables) (n : ℕ) (st : IvectorStream) (z : Rooms) (outs : List ℕ) where
  open k use {kind, a, b, c, d}

  abbrev this : Call
  this = decoded k lists samples (length outs)

  -- where its output begins
  abbrev start : ℕ
  start = min b (length outs)

  call_is : {m : ℕ} {x ws : List Float} {fs : List ℕ} → x ≡ part a b samples → fs ≡ part a b lists → ws ≡ part c d samples
      → m ≡ min (c - b) (length outs - b) → of_kind kind a x fs ws m ≡ this
  unfolding decoded
  call_is p q r s = rw (p, q, r, s)

  -- x' is the estimate's rooms as the call leaves them
  pub ring_turned : {r : StreamCall} {w : Rings} {x' : EstimateRooms} {told : StreamAnswer} {fs : List ℕ} {x ws : List Float} → kind < 4
      → x ≡ part a b samples → fs ≡ part a b lists → ws ≡ part c d samples
      → ring_call r w ≡ done_on st z.rings (ring_step_of st z.rings (of_kind kind a x fs ws 0))
      → told ≡ r.answer → x' ≡ z.estimate
      → Turned t n (program st z) this b outs told (program r.stream (rooms_from w x')) outs
  ring_turned {r} {w} {x'} {told} {fs} {x} {ws} h p q v e answer-is same =
      let m : ℕ = min (c - b) (length outs - b) in
      let y : Rooms = rooms_from w z.estimate in
      let o : Call = of_kind kind a x fs ws m in
      let g : Called t n (program st z) o r y [] [] = called_rings a x fs ws t n st z kind m [] h e in
      turned t n (program st z) o this b outs r y [] [] told (program r.stream (rooms_from w x')) (call_is p q v refl) g
      (put-nothing start outs ∙ ap (λ (v : List ℕ). put start v outs) (sym (over_nothing _ g.output_is)))
      answer-is (ap (λ (x : EstimateRooms). program r.stream (rooms_from w x)) same)

  pub window_turned : {r : StreamCall} {w : Rings} {x' : EstimateRooms} {told : StreamAnswer}
      → kind ≡ 5 → ring_call r w ≡ done_on st z.rings (set_cmn_window st z.rings a)
      → told ≡ r.answer → x' ≡ z.estimate
      → Turned t n (program st z) this b outs told (program r.stream (rooms_from w x')) outs
  window_turned {r} {w} {x'} {told} h e answer-is same =
      let m : ℕ = min (c - b) (length outs - b) in
      let y : Rooms = rooms_from w z.estimate in
      let x : List Float = part a b samples in
      let fs : List ℕ = part a b lists in
      let ws : List Float = part c d samples in
      let o : Call = of_kind kind a x fs ws m in
      let g : Called t n (program st z) o r y [] [] = called_window a x fs ws t n st z kind m [] h e in
      turned t n (program st z) o this b outs r y [] [] told (program r.stream (rooms_from w x')) (call_is refl refl refl refl) g
      (put-nothing start outs ∙ ap (λ (v : List ℕ). put start v outs) (sym (over_nothing _ g.output_is)))
      answer-is (ap (λ (x : EstimateRooms). program r.stream (rooms_from w x)) same)

  pub fetch_turned : (from count : ℕ) {r : StreamCall} {y : Rooms} {told : StreamAnswer} {out : List ℕ} → let lent = take (from + count - from) (drop from outs) in
      4 ≤ kind → (kind ≡ 5 → ⊥) → from ≡ start → count ≡ min (c - b) (length outs - from)
      → length out ≡ length lent
      → fetch_call r y out ≡ fetched_on st z lent (get_frame st t z n a (length lent))
      → told ≡ r.answer
      → Turned t n (program st z) this b outs told (program r.stream y) (take from outs ++ (out ++ drop (from + count - from) (drop from outs)))
  fetch_turned from count {r} {y} {told} {out} h h' f e l q answer-is =
      let lent : List ℕ = take (from + count - from) (drop from outs) in
      let o : Call = of_kind kind a (part a b samples) (part a b lists) (part c d samples) (length lent) in
      let w : Called t n (program st z) o r y lent out = called_fetch a (part a b samples) (part a b lists) (part c d samples) t n st z kind lent h h' q in
      let v : List ℕ = (reply (program st z) (step_of t n (program st z) o)).vector in
      let here : from + count - from ≡ count = omega arith in
      let long : length lent ≡ min (c - b) (length outs - b) =
      length-take-le (from + count - from) (drop from outs) (omega (arith, e, length-drop from outs)) ∙ here ∙ cut_length b c (length outs) from f e in
      turned t n (program st z) o this b outs r y lent out told (program r.stream y) (call_is refl refl refl long) w
      (lent_back from (from + count - from) v outs l w.output_is ∙ ap (λ (j : ℕ). put j v outs) f)
      answer-is refl

-- ---- call i, and its answer written

module _ (kinds numbers lists : List ℕ) (samples : List Float) (i : ℕ) (t : Tables) (n : ℕ) (p : Program) (o : Written) where
  call_at_is : {k : CodedCall} → k ≡ coded_at kinds numbers i → decoded k lists samples (length o.outs) ≡ call_at kinds numbers lists samples (length o.outs) i
  unfolding decoded call_at
  call_at_is e = ap (λ (k : CodedCall). decoded k lists samples (length o.outs)) e

  module _ {k : CodedCall} (e : k ≡ coded_at kinds numbers i) {a : StreamAnswer} {q : Program} {outs' : List ℕ}
      (u : Turned t n p (decoded k lists samples (length o.outs)) k.b o.outs a q outs') where
    abbrev done : Call → Answer
    done c = reply p (step_of t n p c)

    step_on : stepped p (step_of t n p (call_at kinds numbers lists samples (length o.outs) i)) ≡ q
    step_on = ap (λ (c : Call). stepped p (step_of t n p c)) (sym (call_at_is e)) ∙ u.step

    wrote_on : {answers' : List ℕ} → answers' ≡ put (i * 5) (numbers_of a) o.answers
        → written answers' outs' ≡ write numbers i (done (call_at kinds numbers lists samples (length o.outs) i)) o
    unfolding write
    wrote_on w =
        ap₂ written (w ∙ ap (λ (x : StreamAnswer). put (i * 5) (numbers_of x) o.answers) (sym u.told_is)) u.outs_are
        ∙ ap₂
        (λ (b : ℕ) (c : Call). written (put (i * 5) (numbers_of (done c).told) o.answers) (put (min b (length o.outs)) (done c).vector o.outs))
        (ap (λ (k : CodedCall). k.b) e) (call_at_is e)

-- ---- the calls of a list

module _ (kinds numbers lists : List ℕ) (samples : List Float) (n : ℕ) where
  abbrev all : List Call
  all = calls kinds numbers lists samples n

  length_calls : length all ≡ length kinds
  unfolding calls
  length_calls = length_build (length kinds) (call_at kinds numbers lists samples n)

  calls_next : (i : ℕ) → i < length kinds → drop i all ≡ call_at kinds numbers lists samples n i ∷ drop (i + 1) all
  unfolding calls
  calls_next i h =
      drop_next finish all i (omega (arith, length_calls))
      ∙ ap (λ (c : Call). c ∷ drop (i + 1) all) (at_build finish (length kinds) (call_at kinds numbers lists samples n) i h)

-- ---- what is written from call i on, and what the program becomes

module _ (t : Tables) (n : ℕ) (numbers : List ℕ) where
  abbrev rest : ℕ → Program → List Call → Written → Written
  rest i p cs o = writes numbers i (program_answers t n p cs) o

  one : (i : ℕ) (p : Program) (c : Call) (o : Written) (cs : List Call)
      → rest i p (c ∷ cs) o ≡ rest (i + 1) (stepped p (step_of t n p c)) cs (write numbers i (reply p (step_of t n p c)) o)
  unfolding writes program_answers
  one i p c o cs = refl

  none : (i : ℕ) (p : Program) (o : Written) → rest i p [] o ≡ o
  unfolding writes program_answers
  none i p o = refl

  one_after : (p : Program) (c : Call) (cs : List Call) → program_after t n p (c ∷ cs) ≡ program_after t n (stepped p (step_of t n p c)) cs
  unfolding program_after
  one_after p c cs = refl

  none_after : (p : Program) → program_after t n p [] ≡ p
  unfolding program_after
  none_after p = refl

-- ---- the loop over a list: what is left from call i on is what was to be done at first

module _ (kinds numbers lists : List ℕ) (samples : List Float) (t : Tables) (n : ℕ) (p₀ : Program) (o₀ : Written) where
  abbrev cs : List Call
  cs = calls kinds numbers lists samples (length o₀.outs)

  -- p₀ is the program at first, with scratch of n numbers, and o₀ the rooms for answers
  pub record Left (i : ℕ) (p : Program) (o : Written) : Type 0 where
    pub same : rest t n numbers i p (drop i cs) o ≡ rest t n numbers 0 p₀ cs o₀
    pub there : program_after t n p (drop i cs) ≡ program_after t n p₀ cs

  module _ (i : ℕ) (p : Program) (o : Written) {k : CodedCall} {a : StreamAnswer} {q : Program} {outs' answers' : List ℕ} where
    -- a turn, over scratch and outputs that are as long as they were
    pub left_again : {m : ℕ} → Left i p o → i < length kinds → m ≡ n → length o.outs ≡ length o₀.outs → k ≡ coded_at kinds numbers i
        → Turned t m p (decoded k lists samples (length o.outs)) k.b o.outs a q outs' → answers' ≡ put (i * 5) (numbers_of a) o.answers
        → Left (i + 1) q (written answers' outs')
    left_again {m} l h same long e u w =
        let c : Call = call_at kinds numbers lists samples (length o₀.outs) i in
        let d : drop i cs ≡ c ∷ drop (i + 1) cs = calls_next kinds numbers lists samples (length o₀.outs) i h in
        let c-is : call_at kinds numbers lists samples (length o.outs) i ≡ c = ap (λ (j : ℕ). call_at kinds numbers lists samples j i) long in
        let next : stepped p (step_of t n p c) ≡ q =
        ap₂ (λ (j : ℕ) (c : Call). stepped p (step_of t j p c)) (sym same) (sym c-is) ∙ step_on kinds numbers lists samples i t m p o e u in
        let wrote : written answers' outs' ≡ write numbers i (reply p (step_of t n p c)) o =
        wrote_on kinds numbers lists samples i t m p o e u w ∙ ap₂ (λ (j : ℕ) (c : Call). write numbers i (reply p (step_of t j p c)) o) same c-is in
        record {
          same =
              ap₂ (λ (q : Program) (o : Written). rest t n numbers (i + 1) q (drop (i + 1) cs) o) (sym next) wrote
              ∙ sym (ap (λ (ds : List Call). rest t n numbers i p ds o) d ∙ one t n numbers i p c o (drop (i + 1) cs))
              ∙ l.same;
          there =
              ap (λ (q : Program). program_after t n q (drop (i + 1) cs)) (sym next)
              ∙ sym (ap (program_after t n p) d ∙ one_after t n numbers p c (drop (i + 1) cs))
              ∙ l.there;
        }

  pub left_last : (i : ℕ) (p : Program) (o : Written) → Left i p o → length kinds ≤ i
      → (o ≡ rest t n numbers 0 p₀ cs o₀) × (p ≡ program_after t n p₀ cs)
  left_last i p o l h =
      let past : length cs ≤ i = omega (arith, length_calls kinds numbers lists samples (length o₀.outs)) in
      let d : drop i cs ≡ [] = drop_of_length-le cs past in (
        sym (ap (λ (ds : List Call). rest t n numbers i p ds o) d ∙ none t n numbers i p o) ∙ l.same,
        sym (ap (program_after t n p) d ∙ none_after t n numbers p) ∙ l.there,
      )
