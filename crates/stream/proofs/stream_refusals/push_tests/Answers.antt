-- A ring is full where one row more would not fit, which is told without a division: no sum and no product here passes a word.
use Prim.Native.Nat.{◌+◌, ◌≤◌}
use native.Mathlib.Nat.{mul-le-mul}
use native.Mathlib.Omega.{arith}
use Rattle.limits.proofs.Rows.{frames-few, rows_few}
use Rattle.stream.proofs.stream_refusals.push_tests.Goals as goal

pub overflow_add-frames_held : goal.overflow_add-frames_held
overflow_add-frames_held c = omega (arith, frames-few c.args.accepted c.args.mark c.frames_held-frames_held.ensures, c.requires.2)

pub overflow_mul-frames_held : goal.overflow_mul-frames_held
overflow_mul-frames_held c =
    let held = frames-few c.args.accepted c.args.mark c.frames_held-frames_held.ensures in
    let n : c.frames_held-frames_held.result + 1 ≤ 1000000001 = omega (arith, held, c.requires.2) in
    omega (arith, mul-le-mul n c.requires.1)

pub overflow_add-rows_held : goal.overflow_add-rows_held
overflow_add-rows_held c = omega (arith, rows_few c.args.longest c.args.accepted c.args.mark c.rows_held-rows_held.ensures, c.requires.2)

pub overflow_mul-rows_held : goal.overflow_mul-rows_held
overflow_mul-rows_held c =
    let held = rows_few c.args.longest c.args.accepted c.args.mark c.rows_held-rows_held.ensures in
    let n : c.rows_held-rows_held.result + 1 ≤ 1000000002 = omega (arith, held, c.requires.2) in
    omega (arith, mul-le-mul n c.requires.1)
