-- `add_diagonal` meets its contract, by the invariant in Invariants.antt. A diagonal place lies in the matrix (`diagonal_in` in
-- Diagonal.antt).
use mathlib.Core.Path.{ap}
use Prim.Native.Nat.{ℕ, ◌<◌}
use native.Mathlib.Omega.{arith}
use lib.ListN.{length, set}
use Rattle.loops.proofs.Loop.{loops, iter_step}
use Rattle.floats.specs.Operators.{◌+₆₄◌, at}
use Rattle.ivector_stats.proofs.Diagonal.{diagonal_in}
use Rattle.ivector_stats.proofs.add_diagonal.Goals.{After-packed_index-place}
use Rattle.ivector_stats.proofs.add_diagonal.Goals as goal

-- the place of a turn
place_in : (c : After-packed_index-place) → c.packed_index-place.result < length c.loop-i.quadratic
place_in c = omega (arith, diagonal_in c.loop-i.i c.args.s c.packed_index-place.result c.loop-i-test.true c.packed_index-place.ensures, c.loop-i.invariant, c.requires)

pub offset_bounds-quadratic-place : goal.offset_bounds-quadratic-place
offset_bounds-quadratic-place c = omega (arith, place_in (goal.at.offset_bounds-quadratic-place c).After-packed_index-place)

pub bounds-quadratic-place : goal.bounds-quadratic-place
bounds-quadratic-place c = omega (arith, place_in (goal.at.bounds-quadratic-place c).After-packed_index-place)

pub bounds-quadratic-place-in-loop-i : goal.bounds-quadratic-place-in-loop-i
bounds-quadratic-place-in-loop-i c = omega (arith, place_in (goal.at.bounds-quadratic-place-in-loop-i c).After-packed_index-place)

pub loop-i-preserved : goal.loop-i-preserved
loop-i-preserved c =
    let loop = c.loop-i in
    let args = c.args in
    let q = loop.quadratic in
    (search loops, search loops, iter_step _ _ _ loop.invariant.2 (ap (λ (r : ℕ). set q r (at q r +₆₄ args.v)) c.packed_index-place.ensures))
