-- `linear::less_products` meets its contract: the fold over both vectors is the loop of the definition (`fold_zip` in Products.antt).
use Rattle.std.proofs.Common.{rules}
use Rattle.std.proofs.lemmas.Iterator.{YieldsList-from_slice, YieldsList-from_zip}
use Rattle.std.proofs.lemmas.Iterator.Consumers.{fold_from_yields_List}
use mathlib.Core.Path.{refl, ◌∙◌}
use lib.Ieee.{Float, nan}
use Rattle.floats.specs.Operators.{◌-₆₄◌, ◌*₆₄◌}
use Rattle.definition.specs.Solve.{less_products}
use Rattle.algebra.proofs.Products.{fold_zip}
use Rattle.algebra.proofs.linear.less_products.Goals as goal

pub returns : goal.returns
unfolding less_products
returns c =
    let x = c.args.x.now in
    let y = c.args.y.now in
    fold_from_yields_List _ (λ (s : Float) (p : Float × Float). s -₆₄ p.0 *₆₄ p.1) _ _ c.fold.ensures.ran
    (YieldsList-from_zip (YieldsList-from_slice x (cc)) (YieldsList-from_slice y (cc))) (λ a x b q k. search rules)
    ∙ fold_zip nan nan (λ s x y. s -₆₄ x *₆₄ y) c.args.s _ x y refl
