-- A batch has no more frames than there are up to the frame asked for: they are in order, and none stands in it twice. So its NaN likelihoods can
-- be counted in a word.
use mathlib.Core.Path.{◌≡◌}
use mathlib.Core.Bool.{true}
use mathlib.Core.List.{List, [], ◌∷◌}
use Prim.Native.Nat.{ℕ, ◌+◌, ◌-◌, ◌≤◌}
use native.Mathlib.Omega.{arith}
use lib.ListN.{length, length-map}
use lib.Dec.{eqb, leb}
use lib.Ieee.{Float}
use borrow.Author.Tests.{leb-true, eqb-true, eqb-false}
use Rattle.loops.specs.Lists.{those}
use Rattle.loops.proofs.Build.{length_build}
use Rattle.loops.proofs.Choose.{by-test, and_holds}
use Rattle.floats.specs.Operators.{◌+₃₂◌}
use Rattle.definition.specs.declared.IvectorOptions.{IvectorOptions}
use Rattle.definition.specs.declared.FrameWeight.{FrameWeight}
use Rattle.definition.specs.Posteriors.{weighed, unweighted}
use Rattle.definition.specs.Changes.{Change, Changes, merged_from, merged, batch}
use Rattle.definition.specs.Stream.{rising}
use Rattle.program.specs.Rooms.{frames_of}
use Rattle.program.proofs.Waiting.{those-rising, Each, those_each}

module _ (f : ℕ) where
  group_short : (t : ℕ) (w : Float) (cs : List Change) → t ≤ f → rising t (frames_of cs) ≡ true → Each (λ g. g ≤ f) cs → t + length (merged_from t w cs) ≤ f + 1
  unfolding merged_from rising
  group_short t w [] p o h = omega arith
  group_short t w (c ∷ cs) p o h =
      let r = and_holds (leb t c.0) (rising c.0 (frames_of cs)) o in
      by-test (eqb c.0 t)
      (λ e. rw e (omega (arith, group_short c.0 (w +₃₂ c.1) cs h.0 r.1 h.1, eqb-true c.0 t e)))
      (λ e. rw e (omega (arith, group_short c.0 c.1 cs h.0 r.1 h.1, leb-true t c.0 r.0, eqb-false c.0 t e)))

  merged_short : (cs : List Change) → rising 0 (frames_of cs) ≡ true → Each (λ g. g ≤ f) cs → length (merged cs) ≤ f + 1
  unfolding merged rising
  merged_short [] o h = omega arith
  merged_short (c ∷ cs) o h = omega (arith, group_short c.0 c.1 cs h.0 (and_holds (leb 0 c.0) (rising c.0 (frames_of cs)) o).1 h.1)

  pub batch_short : (o : IvectorOptions) (c : Changes) (next : ℕ) → rising 0 (frames_of c.waiting) ≡ true → length (batch o c next f) ≤ f + 1
  unfolding batch
  batch_short o c next r =
      let early : List Change = those (λ d. leb d.0 f) c.waiting in
      by-test c.called
      (λ e. rw e (omega (
        arith,
        length-map {B = ℕ × FrameWeight} (merged early) (λ d. (d.0, weighed o d.1)),
        merged_short early (those-rising (λ d. leb d.0 f) 0 c.waiting r) (those_each (λ g. g ≤ f) (λ d. leb d.0 f) c.waiting (λ k l q. leb-true _ _ q)),
      )))
      (λ e. rw e (omega (arith, length_build {A = ℕ × FrameWeight} (f + 1 - next) (λ i. (next + i, unweighted o)))))
