-- `ln_bits` gives `ln_of` of the float of the pattern: `split` has its digits q and exponent e, and q with the exponent's field of 1 is the m,
-- e - 1148 the exponent that `ln_sum` is given by the definition (`ln_pattern` in Logs.antt).
use Rattle.std.proofs.Common.{◌+◌, ℤ, sym, ap, ◌∙◌}
use lib.Ieee.{binary64, of_bits, of_int}
use Rattle.floats.specs.Ln.{ln_sum}
use Rattle.floats.proofs.Logs.{ln_pattern, exponent_fits, exponent_read}
use Rattle.floats.proofs.ln_bits.Goals as goal

pub float_from_bits-m : goal.float_from_bits-m
float_from_bits-m c = let s = c.split-d in (ln_pattern c.args.a s.result.q s.result.e c.requires.0 c.requires.1 s.ensures).no_nan

pub overflow_sub-e : goal.overflow_sub-e
overflow_sub-e c = let s = c.split-d in exponent_fits s.result.e s.ensures.high

pub returns : goal.returns
returns c =
    let s = c.split-d in
    c.ln_sum.ensures
    ∙ ap (λ (d : ℤ). ln_sum (of_bits binary64 (s.result.q + 0x3fe0_0000_0000_0000)) (of_int binary64 d)) (exponent_read s.result.e s.ensures.high)
    ∙ sym (ln_pattern c.args.a s.result.q s.result.e c.requires.0 c.requires.1 s.ensures).value
