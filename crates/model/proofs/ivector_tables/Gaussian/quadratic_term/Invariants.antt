-- The loop of `quadratic_term`: the first p rows of the triangle stand in the room, and the next begins behind them.
use Rattle.std.proofs.Common.{◌≡◌, ◌+◌, ◌*◌, ◌/◌}
use Rattle.loops.specs.Lists.{build, flat, over}
use Rattle.model.proofs.Rows.{quadratic_row}
use Rattle.model.proofs.ivector_tables.Gaussian.quadratic_term.Given as goal

abbrev pub invariant-loop-p : goal.invariant-loop-p
invariant-loop-p l = record {
  behind : l.start ≡ l.p * (l.p + 1) / 2;
  rows : l.out ≡ over (flat l.p (λ p. build (p + 1) (quadratic_row l.self.d l.self.n l.self.m.now l.sigma_inv_m p))) l.initial.out;
}
