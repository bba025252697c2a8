-- The loop of `sigma_inv_m`: the first a rows of Σ⁻¹ M stand in the room.
use Rattle.std.proofs.Common.{◌≡◌}
use Rattle.loops.specs.Lists.{build, flat, over}
use Rattle.model.proofs.Rows.{sigma_row}
use Rattle.model.proofs.ivector_tables.Gaussian.sigma_inv_m.Given as goal

abbrev pub invariant-loop-a : goal.invariant-loop-a
invariant-loop-a l = l.out ≡ over (flat l.a (λ a. build l.self.n (sigma_row l.self.d l.self.n l.self.sigma_inv.now l.self.m.now a))) l.initial.out
