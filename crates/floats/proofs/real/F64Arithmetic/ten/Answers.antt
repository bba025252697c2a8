-- `ten` gives 10^k as an f64: antt computes that the table is the list of 10 ^ 0, .., 10 ^ 22.
use Rattle.std.proofs.Common.{ℕ, ◌^◌, arith}
use lib.Ieee.{nan, round, of_int, of_bits}
use Rattle.loops.specs.Lists.{build}
use Rattle.loops.proofs.Build.{at_build}
use Rattle.floats.specs.Operators.{as_f64}
use Rattle.floats.proofs.real.F64Arithmetic.ten.Goals as goal

pub returns : goal.returns
unfolding build of_int of_bits round
returns c = at_build nan 23 (λ (k : ℕ). as_f64 (10 ^ k)) c.args.k (omega arith)
