-- `linear::recompute` meets its contract: where the residual is far from the last one, it is the one of the product (`renew_far` in Turns.antt).
use mathlib.Core.Path.{◌∙◌}
use Rattle.loops.proofs.Fill.{fill_whole}
use Rattle.algebra.proofs.Turns.{renew_far}
use Rattle.algebra.proofs.linear.recompute.Goals as goal

pub returns-then-is_far-clause-residual : goal.returns-then-is_far-clause-residual
returns-then-is_far-clause-residual c =
    λ a h. renew_far a _ c.args.system.b.now _ c.args.r.now c.args.s c.is_far.ensures c.if-is_far.true (c.times.ensures a h) (c.difference.ensures ∙ fill_whole _ _ _ c.requires.r_long)
