-- `room_sizes` meets its contract. The limits that are required keep each product within a word.
use mathlib.Core.Path.{ap}
use Prim.Native.Nat.{ℕ, ◌+◌, ◌*◌, ◌≤◌}
use native.Mathlib.Nat.{mul-le-mul}
use native.Mathlib.Omega.{arith}
use Rattle.definition.specs.Kaldi.{triangle}
use Rattle.definition.proofs.Ranges.{DimRanges, DimProducts, dim-ranges, dim_products}
use Rattle.model.specs.Memory.{rooms_from}
use Rattle.model.proofs.memory.room_sizes.Goals.{Start}
use Rattle.model.proofs.memory.room_sizes.Goals as goal

known : (c : Start) → DimRanges c.args.d × DimProducts c.args.d
known c = (dim-ranges _ c.requires.0, dim_products _ c.requires.0)

pub overflow_mul-result : goal.overflow_mul-result
overflow_mul-result c =
    let m : c.args.frames * c.args.d.base_dim ≤ 1000000000 * 64 = mul-le-mul c.requires.1 (known (goal.at.overflow_mul-result c).Start).0.base_is in
    omega arith

pub overflow_mul-result-2 : goal.overflow_mul-result-2
overflow_mul-result-2 c =
    let m : c.args.rows * c.args.d.base_dim ≤ 2000000000 * 64 = mul-le-mul c.requires.2 (known (goal.at.overflow_mul-result-2 c).Start).0.base_is in
    omega arith

pub overflow_add-result : goal.overflow_add-result
overflow_add-result c = omega (arith, known (goal.at.overflow_add-result c).Start)

pub overflow_add-result-2 : goal.overflow_add-result-2
overflow_add-result-2 c = omega (arith, known (goal.at.overflow_add-result-2 c).Start)

pub overflow_mul-result-3 : goal.overflow_mul-result-3
overflow_mul-result-3 c = omega (arith, known (goal.at.overflow_mul-result-3 c).Start)

pub returns : goal.returns
returns c =
    let a = c.args in
    let b = a.d.base_dim in
    let s = a.d.ivector_dim in
    ap (λ (x : ℕ). rooms_from (a.frames * b) (a.rows * b) a.changes (b + 1) s (triangle s) s x) c.stream_scratch-scratch.ensures
