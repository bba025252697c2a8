-- `narrow_bits` gives `mag_bits a`, an f32's pattern without sign, by the size of a: too large, normal, subnormal, none (Narrowing.antt).
-- `mid_le` and `mag_le` say that the pattern fits 32 bits.
use Rattle.std.proofs.Common.{ℕ, ◌+◌, ◌-◌, ◌*◌, ◌/◌, ◌^◌, ap, ◌∙◌, arith}
use Rattle.floats.proofs.Narrowing.{mag_top, mag_mid, mag_low, mag_none, mid_le, mag_le}
use Rattle.floats.proofs.narrow_bits.Goals as goal

pub overflow_add-result : goal.overflow_add-result
overflow_add-result c = omega (arith, c.shifted.ensures, mid_le c.args.a (omega arith))

pub overflow_cast-result : goal.overflow_cast-result
overflow_cast-result c = omega (arith, c.shifted.ensures, mid_le c.args.a (omega arith))

pub overflow_cast-result-then-x-ge863 : goal.overflow_cast-result-then-x-ge863
overflow_cast-result-then-x-ge863 c =
    let a = c.args.a in
    omega (arith, c.shifted-then-x-ge863.ensures, mag_low a (omega arith) (omega arith), mag_le a)

pub returns-then-x-ge1151 : goal.returns-then-x-ge1151
returns-then-x-ge1151 c = mag_top c.args.a (omega arith)

pub returns-then-x-ge897 : goal.returns-then-x-ge897
returns-then-x-ge897 c =
    let a = c.args.a in
    ap (λ (r : ℕ). (a / 2 ^ 52 - 897) * 8388608 + r) c.shifted.ensures ∙ mag_mid a (omega arith) (omega arith)

pub returns-then-x-ge863 : goal.returns-then-x-ge863
returns-then-x-ge863 c = c.shifted-then-x-ge863.ensures ∙ mag_low c.args.a (omega arith) (omega arith)

pub returns-else-x-ge863 : goal.returns-else-x-ge863
returns-else-x-ge863 c = mag_none c.args.a (omega arith)
