-- `narrow` gives `narrowed x`: a NaN of a NaN; else the pattern without its sign goes through `narrow_bits` and gets the sign back
-- (`minus_is`, `plus_is` in Narrowing.antt).
use Rattle.std.proofs.Common.{◌≡◌, ◌+◌, ◌-◌, false, T, arith}
use lib.Ieee.{binary64, fits, is_nan, to_bits}
use denote.Floats.{passes}
use Rattle.floats.proofs.Patterns.{no_nan, false-not, plus_le, minus_le}
use Rattle.floats.proofs.Narrowing.{nan_is, mag_le, minus_is, plus_is, narrow_ok}
use Rattle.floats.proofs.narrow.Goals.{Else-x}
use Rattle.floats.proofs.narrow.Goals as goal

-- where the argument is no NaN: what owning an f64 tells, that the format holds it, and what the test tells
held : (c : Else-x) → T (fits binary64 c.args.x)
held c = passes _ c.well_formed.0.1

none : (c : Else-x) → is_nan c.args.x ≡ false
none c = no_nan c.args.x c.if-x.false

pub returns-then-x : goal.returns-then-x
returns-then-x c = nan_is c.args.x c.if-x.true

pub float_to_bits-b : goal.float_to_bits-b
float_to_bits-b c = false-not (is_nan c.args.x) (none (goal.at.float_to_bits-b c).Else-x)

-- ---- with the sign

pub narrow_bits-requires : goal.narrow_bits-requires
narrow_bits-requires c = minus_le binary64 c.args.x (held (goal.at.narrow_bits-requires c).Else-x) (none (goal.at.narrow_bits-requires c).Else-x) c.if-b-ge-SIGN.true

pub overflow_add-result : goal.overflow_add-result
overflow_add-result c = let x = c.args.x in omega (arith, c.narrow_bits.ensures, mag_le (to_bits binary64 x - 0x8000_0000_0000_0000))

pub returns-then-b-ge-SIGN : goal.returns-then-b-ge-SIGN
returns-then-b-ge-SIGN c = minus_is c.args.x (held (goal.at.returns-then-b-ge-SIGN c).Else-x) (none (goal.at.returns-then-b-ge-SIGN c).Else-x) c.if-b-ge-SIGN.true c.narrow_bits.result c.narrow_bits.ensures

pub float_from_bits-result : goal.float_from_bits-result
float_from_bits-result c = narrow_ok c.args.x (held (goal.at.float_from_bits-result c).Else-x) (none (goal.at.float_from_bits-result c).Else-x) (0x8000_0000 + c.narrow_bits.result) (returns-then-b-ge-SIGN c)

-- ---- without it

pub narrow_bits-requires-else-b-ge-SIGN : goal.narrow_bits-requires-else-b-ge-SIGN
narrow_bits-requires-else-b-ge-SIGN c = plus_le binary64 c.args.x (held (goal.at.narrow_bits-requires-else-b-ge-SIGN c).Else-x) (none (goal.at.narrow_bits-requires-else-b-ge-SIGN c).Else-x) c.if-b-ge-SIGN.false

pub returns-else-b-ge-SIGN : goal.returns-else-b-ge-SIGN
returns-else-b-ge-SIGN c = plus_is c.args.x (held (goal.at.returns-else-b-ge-SIGN c).Else-x) (none (goal.at.returns-else-b-ge-SIGN c).Else-x) c.if-b-ge-SIGN.false c.narrow_bits-else-b-ge-SIGN.result c.narrow_bits-else-b-ge-SIGN.ensures

pub float_from_bits-result-else-b-ge-SIGN : goal.float_from_bits-result-else-b-ge-SIGN
float_from_bits-result-else-b-ge-SIGN c = narrow_ok c.args.x (held (goal.at.float_from_bits-result-else-b-ge-SIGN c).Else-x) (none (goal.at.float_from_bits-result-else-b-ge-SIGN c).Else-x) c.narrow_bits-else-b-ge-SIGN.result (returns-else-b-ge-SIGN c)
