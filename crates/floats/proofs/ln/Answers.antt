-- `ln` gives `ln_of v`, arm by arm as the bits tell them apart: a NaN, below zero, a zero of either sign, an infinity (Signs.antt, with `sqrt`),
-- and else what `ln_bits` ensures of the same pattern.
use Rattle.std.proofs.Common.{◌≡◌, false, T}
use lib.Ieee.{binary64, fits, is_nan}
use denote.Floats.{passes}
use Rattle.floats.specs.Ln.{ln_of}
use Rattle.floats.proofs.Patterns.{no_nan, false-not}
use Rattle.floats.proofs.Signs.{of_nan, of_minus, of_inf, of_else}
use Rattle.floats.proofs.Logs.{ln_from-zero, of_minus_zero, of_zero}
use Rattle.floats.proofs.ln.Goals.{Else-v}
use Rattle.floats.proofs.ln.Goals as goal

-- where the argument is no NaN: what owning an f64 tells, that the format holds it, and what the first test tells
held : (c : Else-v) → T (fits binary64 c.args.v)
held c = passes _ c.well_formed.0.1

none : (c : Else-v) → is_nan c.args.v ≡ false
none c = no_nan c.args.v c.if-v.false

pub returns-then-v : goal.returns-then-v
returns-then-v c = of_nan ln_of ln_from-zero c.args.v c.if-v.true

pub float_to_bits-b : goal.float_to_bits-b
float_to_bits-b c = false-not (is_nan c.args.v) (none (goal.at.float_to_bits-b c).Else-v)

pub returns-then-b-gt-SIGN : goal.returns-then-b-gt-SIGN
returns-then-b-gt-SIGN c = of_minus ln_of ln_from-zero c.args.v (held (goal.at.returns-then-b-gt-SIGN c).Else-v) (none (goal.at.returns-then-b-gt-SIGN c).Else-v) c.if-b-gt-SIGN.true

pub returns-then-b-ge-SIGN : goal.returns-then-b-ge-SIGN
returns-then-b-ge-SIGN c = of_minus_zero c.args.v (held (goal.at.returns-then-b-ge-SIGN c).Else-v) (none (goal.at.returns-then-b-ge-SIGN c).Else-v) c.if-b-ge-SIGN.true c.if-b-gt-SIGN.false

pub returns-then-b-eq0 : goal.returns-then-b-eq0
returns-then-b-eq0 c = of_zero c.args.v (held (goal.at.returns-then-b-eq0 c).Else-v) (none (goal.at.returns-then-b-eq0 c).Else-v) c.if-b-eq0.true

pub returns-then-b-ge-INFINITE : goal.returns-then-b-ge-INFINITE
returns-then-b-ge-INFINITE c = of_inf ln_of ln_from-zero c.args.v (held (goal.at.returns-then-b-ge-INFINITE c).Else-v) (none (goal.at.returns-then-b-ge-INFINITE c).Else-v) c.if-b-ge-SIGN.false c.if-b-ge-INFINITE.true

pub returns : goal.returns
returns c = of_else ln_of ln_from-zero c.args.v (held (goal.at.returns c).Else-v) (none (goal.at.returns c).Else-v) c.ln_bits.result c.ln_bits.ensures
