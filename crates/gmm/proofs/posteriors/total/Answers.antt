-- `posteriors::total` meets its contract: the library adds in order, from -0.0 on (`fold_sum` in Folds.antt).
use Rattle.std.proofs.lemmas.Iterator.{YieldsList-from_slice}
use Rattle.std.proofs.lemmas.Iterator.Adapters.{total_from_yields_List}
use mathlib.Core.Path.{◌∙◌}
use Rattle.floats.specs.Operators.{◌+₃₂◌}
use Rattle.gmm.proofs.Folds.{fold_sum}
use Rattle.gmm.proofs.posteriors.total.Goals as goal

pub returns : goal.returns
returns c = total_from_yields_List ◌+₃₂◌ _ _ c.sum.ensures.ran (YieldsList-from_slice c.args.posts.now (cc)) ∙ fold_sum _ c.args.posts.now
