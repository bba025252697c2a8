-- `bits` meets its contract: a NaN has the pattern that `to_bits` gives it (`nan_bits_lem` in Vector.antt); of any other number the bits are taken as they are.
use lib.Ieee.{is_nan}
use Rattle.floats.proofs.Patterns.{no_nan, false-not}
use Rattle.stream.proofs.Vector.{nan_bits_lem}
use Rattle.stream.proofs.ivector_fetch.bits.Goals as goal

pub returns-then-x : goal.returns-then-x
returns-then-x c = nan_bits_lem c.args.x c.if-x.true

pub float_to_bits-result : goal.float_to_bits-result
float_to_bits-result c = let x = c.args.x in false-not (is_nan x) (no_nan x c.if-x.false)
