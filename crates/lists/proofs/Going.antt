-- The loop over the calls that are drawn: what is left from call i on is what was to be tallied at first (`Going`); it holds at first, after a call more,
-- and says all at the end.
use mathlib.Core.Path.{◌≡◌, refl, sym, ap, ap₂, ◌∙◌}
use mathlib.Core.List.{List, [], ◌∷◌}
use Prim.Native.Nat.{ℕ, zero, suc, ◌+◌, ◌%◌, ◌≤◌, ◌<◌}
use native.Mathlib.Omega.{arith}
use lib.ListN.{length, get_or, drop, replicate, drop_of_length-le}
use lib.Ieee.{Float}
use Rattle.loops.proofs.Build.{length_build, at_build}
use Rattle.loops.proofs.Parts.{drop_next}
use Rattle.definition.specs.declared.StreamAnswer.{StreamAnswer}
use Rattle.definition.specs.Model.{Tables}
use Rattle.definition.specs.Machine.{Call, finish}
use Rattle.program.specs.Session.{Program, stepped, step_of, reply, program_after, program_answers}
use Rattle.lists.specs.Turns.{decoded, Turned}
use Rattle.lists.specs.declared.run_calls.CodedCall.{CodedCall}
use Rattle.lists.specs.Draws.{draw, Drawing, drawing, call_in, drawing_at, drawn_calls}
use Rattle.lists.specs.Inner.TryLoad.{Placed}
use Rattle.lists.specs.declared.try_load.Place.{Place}
use Rattle.lists.specs.Inner.TryNotes.{Tally, noted}
use Rattle.lists.proofs.Counted.{counted-few}
use Rattle.lists.specs.Totals.{kind_of}
use Rattle.lists.specs.Inner.TryPlay.{tallied}
use Rattle.lists.proofs.DrawnKind.{kind_of_drawn}

-- ---- what is tallied, and what the program becomes, from a call on

module _ (t : Tables) (n : ℕ) where
  abbrev rest : Program → List Call → Tally → Tally
  rest p cs s = tallied s cs (program_answers t n p cs)

  one : (p : Program) (c : Call) (cs : List Call) (s : Tally)
      → rest p (c ∷ cs) s ≡ rest (stepped p (step_of t n p c)) cs (noted s (kind_of c) (reply p (step_of t n p c)).told)
  unfolding tallied program_answers
  one p c cs s = refl

  none : (p : Program) (s : Tally) → rest p [] s ≡ s
  unfolding tallied program_answers
  none p s = refl

  one_after : (p : Program) (c : Call) (cs : List Call) → program_after t n p (c ∷ cs) ≡ program_after t n (stepped p (step_of t n p c)) cs
  unfolding program_after
  one_after p c cs = refl

  none_after : (p : Program) → program_after t n p [] ≡ p
  unfolding program_after
  none_after p = refl

-- ---- the calls

module _ (dim seed times : ℕ) where
  length_drawn : length (drawn_calls dim seed times) ≡ times
  unfolding drawn_calls
  length_drawn = length_build times (λ i. call_in dim (drawing_at dim seed i))

  drawn_next : (i : ℕ) → i < times → drop i (drawn_calls dim seed times) ≡ call_in dim (drawing_at dim seed i) ∷ drop (i + 1) (drawn_calls dim seed times)
  unfolding drawn_calls
  drawn_next i h =
      drop_next finish (drawn_calls dim seed times) i (omega (arith, length_drawn))
      ∙ ap (λ (c : Call). c ∷ drop (i + 1) (drawn_calls dim seed times)) (at_build finish times (λ i. call_in dim (drawing_at dim seed i)) i h)

-- ---- the loop

module _ (dim seed times : ℕ) (t : Tables) (p₀ : Program) (n : ℕ) (s₀ : Tally) where
  abbrev cs : List Call
  cs = drawn_calls dim seed times

  -- p₀ is the program at first, with scratch of n numbers, and s₀ the tally
  pub record Going (i : ℕ) (p : Program) (q : Place) (s : Tally) : Type 0 where
    pub placed : Placed dim seed i q
    pub calls_few : (k : ℕ) → get_or s.calls k 0 ≤ i
    pub refusals_few : (k : ℕ) → get_or s.refusals k 0 ≤ i
    pub same : rest t n p (drop i cs) s ≡ rest t n p₀ cs s₀
    pub there : program_after t n p (drop i cs) ≡ program_after t n p₀ cs

  pub going_first : (q : Place) → Placed dim seed 0 q → ((k : ℕ) → get_or s₀.calls k 0 ≤ 0) → ((k : ℕ) → get_or s₀.refusals k 0 ≤ 0) → Going 0 p₀ q s₀
  going_first q h a b = record { placed = h; calls_few = a; refusals_few = b; same = refl; there = refl }

  module _ (i : ℕ) (p : Program) (q q' : Place) (s s' : Tally) (k : CodedCall) (lists : List ℕ) (samples : List Float) (outs outs' : List ℕ) (a : StreamAnswer) (p' : Program) where
    -- a turn, over scratch that is as long as it was
    pub going_again : {m : ℕ} → Going i p q s → i < times → m ≡ n → decoded k lists samples 1 ≡ call_in dim (drawing q.state q.pushes) → k.kind ≡ draw q.state % 5
        → length outs ≡ 1 → Turned t m p (decoded k lists samples (length outs)) k.b outs a p' outs' → s' ≡ noted s k.kind a
        → Placed dim seed (i + 1) q' → Going (i + 1) p' q' s'
    going_again {m} l h same e f one_out u tallied-on Placed-on =
        let d : Drawing = drawing_at dim seed i in
        let c : Call = call_in dim d in
        let rest_is : drop i cs ≡ c ∷ drop (i + 1) cs = drawn_next dim seed times i h in
        let c-is : decoded k lists samples (length outs) ≡ c =
        ap (decoded k lists samples) one_out ∙ e ∙ ap₂ (λ (a b : ℕ). call_in dim (drawing a b)) l.placed.state_is l.placed.pushes_are in
        let next : stepped p (step_of t n p c) ≡ p' =
        ap₂ (λ (j : ℕ) (c : Call). stepped p (step_of t j p c)) (sym same) (sym c-is) ∙ u.step in
        let told : (reply p (step_of t n p c)).told ≡ a =
        ap₂ (λ (j : ℕ) (c : Call). (reply p (step_of t j p c)).told) (sym same) (sym c-is) ∙ u.told_is in
        let kind-is : k.kind ≡ kind_of c = f ∙ ap (λ (a : ℕ). draw a % 5) l.placed.state_is ∙ sym (kind_of_drawn dim d) in
        let tally-on : s' ≡ noted s (kind_of c) (reply p (step_of t n p c)).told = tallied-on ∙ ap₂ (noted s) kind-is (sym told) in
        record {
          placed = Placed-on;
          calls_few = λ j. rw (ap (λ (s : Tally). s.calls) tallied-on) (counted-few s.calls k.kind i l.calls_few j);
          refusals_few = λ j. rw (ap (λ (s : Tally). s.refusals) tallied-on) (counted-few s.refusals a.refusal i l.refusals_few j);
          same =
              ap₂ (λ (x : Program) (s : Tally). rest t n x (drop (i + 1) cs) s) (sym next) tally-on
              ∙ sym (ap (λ (ds : List Call). rest t n p ds s) rest_is ∙ one t n p c (drop (i + 1) cs) s)
              ∙ l.same;
          there =
              ap (λ (x : Program). program_after t n x (drop (i + 1) cs)) (sym next)
              ∙ sym (ap (program_after t n p) rest_is ∙ one_after t n p c (drop (i + 1) cs))
              ∙ l.there;
        }

  pub going_last : (i : ℕ) (p : Program) (q : Place) (s : Tally) → Going i p q s → times ≤ i
      → (s ≡ tallied s₀ cs (program_answers t n p₀ cs)) × (p ≡ program_after t n p₀ cs)
  going_last i p q s l h =
      let past : length cs ≤ i = omega (arith, length_drawn dim seed times) in
      let d : drop i cs ≡ [] = drop_of_length-le cs past in (
        sym (ap (λ (ds : List Call). rest t n p ds s) d ∙ none t n p s) ∙ l.same,
        sym (ap (program_after t n p) d ∙ none_after t n p) ∙ l.there,
      )

pub zeros_few : (n k : ℕ) → get_or (replicate n 0) k 0 ≤ 0
zeros_few n k = zeros n k
  where
    zeros : (n k : ℕ) → get_or (replicate n 0) k 0 ≤ 0
    zeros zero k = omega arith
    zeros (suc n) zero = omega arith
    zeros (suc n) (suc k) = zeros n k
