-- `packed_matrix::dot` meets its contract: the sum of the products is the loop of the definition (`sum_products` in Products.antt).
use Rattle.std.specs.Float.{binary64}
use Rattle.std.specs.Float.Ieee.{add, mul}
use Rattle.std.proofs.Common.{rules}
use Rattle.std.proofs.lemmas.Iterator.{YieldsList-from_slice, YieldsList-from_zip, YieldsList-from_map}
use Rattle.std.proofs.lemmas.Iterator.Adapters.{total_from_yields_List}
use mathlib.Core.Path.{◌∙◌}
use lib.Ieee.{Float}
use Rattle.definition.specs.Solve.{dot}
use Rattle.algebra.proofs.Products.{sum_products}
use Rattle.algebra.proofs.packed_matrix.dot.Goals as goal

pub returns : goal.returns
unfolding dot
returns c =
    let a = c.args.a.now in
    let b = c.args.b.now in
    total_from_yields_List (add binary64) _ _ c.sum.ensures.ran
    (YieldsList-from_map _ (λ (p : Float × Float). mul binary64 p.0 p.1) (YieldsList-from_zip (YieldsList-from_slice a (cc)) (YieldsList-from_slice b (cc))) (cc) (λ x r q k. search rules))
    ∙ sum_products binary64 _ a b
