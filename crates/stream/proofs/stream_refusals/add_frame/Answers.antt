-- `add_frame` meets its contract, by the invariant in Invariants.antt. The row that is read lies apart from the one that is written. The
-- frame has no NaN, so that the cast of each number is defined, and leaves it as it is.
use borrow.Author.Rules.{rules}
use mathlib.Core.Bool.{not}
use native.Mathlib.Omega.{arith}
use lib.Ieee.{Float, nan, binary64, fits, is_nan}
use lib.Ieee.Fits.{and_i, fits_widens}
use lib.Ieee.Scale.{finite}
use Rattle.loops.proofs.Fill.{puts, put_end}
use Rattle.loops.proofs.Tests.{none_at}
use Rattle.floats.specs.Operators.{at}
use Rattle.stream.proofs.Stored.{sums_turn, no_nan}
use Rattle.stream.proofs.stream_refusals.add_frame.Goals as goal

pub loop-d-init : goal.loop-d-init
loop-d-init c = search puts

pub float_to_float-rows : goal.float_to_float-rows
float_to_float-rows c =
    let x : Float = at c.args.frame.now c.loop-d.d in
    let real = none_at (λ v. not (finite v)) nan c.args.frame.now c.loop-d.d c.requires.3 (omega arith) in
    and_i (fits binary64 x) (not (is_nan x)) (fits_widens x c.row_known-1.given) (no_nan x real)

pub loop-d-preserved : goal.loop-d-preserved
loop-d-preserved c = (omega arith, omega arith, search rules, sums_turn c.args.last c.args.next c.args.frame.now c.args.rows.now c.requires.1 c.requires.2 c.loop-d.d (omega arith) c.loop-d.invariant.3)

pub returns : goal.returns
returns c = put_end _ _ _ _ _ (omega arith) (omega arith) c.loop-d.invariant.3
