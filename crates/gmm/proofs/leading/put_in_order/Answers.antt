-- `leading::put_in_order` meets its contract: at the front by `slide`; else the walk goes on where `move_up_by_fours` left it (`back_turn`), and what is in hand is
-- put down at its end (`back_end`, both in Sliding.antt).
use borrow.Author.Rules.{rules}
use mathlib.Core.Path.{◌≡◌, refl, sym, ap, ◌∙◌}
use mathlib.Core.Bool.{Bool}
use mathlib.Core.List.{List}
use Prim.Native.Nat.{ℕ, ◌+◌, ◌-◌, ◌<◌}
use native.Mathlib.Nat.{not-suc-le-zero}
use native.Mathlib.Omega.{arith}
use lib.ListN.{length}
use lib.Ieee.{Float, nan}
use Rattle.floats.specs.Operators.{at}
use Rattle.definition.specs.Posteriors.{ahead}
use Rattle.gmm.specs.Inner.Leading.{slid}
use Rattle.gmm.proofs.Sliding.{length_slid, back_in, back_turn, back_end, in_front}
use Rattle.gmm.proofs.leading.put_in_order.Goals as goal

-- what the walk asks of the place in front of j, it asks of what stood there
passes : (p : Float) (n j : ℕ) (y : List Float) {posts : List Float} {r s : Bool} → 0 < j → posts ≡ slid j n (at y j) y → r ≡ ahead (0, p) (0, at posts (j - 1)) → r ≡ s → ahead (0, p) (0, at y (j - 1)) ≡ s
passes p n j y t e f g = ap (λ (q : Float). ahead (0, p) (0, q)) (sym (back_in nan j n (at y j) y (j - 1) (omega arith) e)) ∙ sym f ∙ g

pub returns-then-belongs_first : goal.returns-then-belongs_first
returns-then-belongs_first c =
    (c.slide.ensures, c.slide-then-belongs_first.ensures, record { most = omega arith; front = λ k h. absurd (not-suc-le-zero h); here = c.belongs_first.ensures c.if-belongs_first.true })

pub loop-j-init : goal.loop-j-init
loop-j-init c = (c.move_up_by_fours-j.ensures.most, refl, refl, λ z y h l m. m)

pub loop-j-preserved : goal.loop-j-preserved
loop-j-preserved c =
    let l = c.loop-j in
    let a = c.args in
    let t = c.loop-j-test.true in
    let low = l.invariant.0 in (
      omega arith,
      search rules,
      search rules,
      λ z y h o m. let now = l.invariant.3 z y h o m in
          record {
            most = omega arith;
            gauss = back_turn 0 l.j (a.last + 1) _ z t (omega arith) (omega arith) now.gauss;
            values = back_turn nan l.j (a.last + 1) _ y t (omega arith) (omega arith) now.values;
            here = λ s. passes a.p (a.last + 1) l.j y t now.values c.ahead.ensures c.if-ahead.true;
          },
    )

pub returns-else-ahead : goal.returns-else-ahead
returns-else-ahead c =
    let l = c.loop-j in
    let a = c.args in
    let t = c.loop-j-test.true in
    let now = l.invariant.3 _ _ c.requires.0 c.requires.1 c.move_up_by_fours-j.ensures in
    let low = now.most in (
      back_end l.j (a.last + 1) _ a.g a.chosen.now (omega arith) now.gauss,
      back_end l.j (a.last + 1) _ a.p a.posts.now (omega arith) now.values,
      record { most = low; front = in_front _ _ _ _ c.requires.2 t low (passes a.p (a.last + 1) l.j a.posts.now t now.values c.ahead.ensures c.if-ahead.false); here = now.here },
    )

pub returns : goal.returns
returns c =
    let l = c.loop-j in
    let a = c.args in
    let now = l.invariant.3 _ _ c.requires.0 c.requires.1 c.move_up_by_fours-j.ensures in
    let low = now.most in (
      back_end l.j (a.last + 1) _ a.g a.chosen.now (omega arith) now.gauss,
      back_end l.j (a.last + 1) _ a.p a.posts.now (omega arith) now.values,
      record { most = low; front = λ k h. absurd (omega arith); here = now.here },
    )

pub shape_of-chosen-else-ahead : goal.shape_of-chosen-else-ahead
shape_of-chosen-else-ahead c = ap length (returns-else-ahead c).0 ∙ length_slid _ _ _ _

pub shape_of-posts-else-ahead : goal.shape_of-posts-else-ahead
shape_of-posts-else-ahead c = ap length (returns-else-ahead c).1 ∙ length_slid _ _ _ _

pub shape_of-chosen : goal.shape_of-chosen
shape_of-chosen c = ap length (returns c).0 ∙ length_slid _ _ _ _

pub shape_of-posts : goal.shape_of-posts
shape_of-posts c = ap length (returns c).1 ∙ length_slid _ _ _ _
