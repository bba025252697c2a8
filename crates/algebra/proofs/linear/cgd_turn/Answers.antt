-- `linear::cgd_turn` meets its contract: what the steps leave is the definition's turn up to its end (`turn_is` in Turns.antt).
use mathlib.Core.Path.{◌∙◌}
use Rattle.algebra.proofs.Rows.{whole}
use Rattle.algebra.proofs.Turns.{turn_is, dot_whole}
use Rattle.algebra.proofs.linear.cgd_turn.Goals as goal

pub returns-clause-turn : goal.returns-clause-turn
returns-clause-turn c =
    let q = c.requires in
    let renewed = c.recompute.ensures in
    let moved = c.add_scaled-2.auto.out ∙ q.r_long in
    λ a h. turn_is a _ _ _ _ _ _ (c.times.ensures a h) (dot_whole _ _ _ q.p_long q.r_long c.dot.ensures) (dot_whole _ _ _ q.p_long (c.times.auto.out ∙ q.ap_long) c.dot-2.ensures)
    (whole _ _ c.args.x.now q.x_long c.add_scaled.ensures) (whole _ _ c.args.r.now q.r_long c.add_scaled-2.ensures)
    (dot_whole _ _ _ moved moved c.dot-3.ensures) c.stepped-moved.ensures (renewed.residual a h) renewed.scalars
