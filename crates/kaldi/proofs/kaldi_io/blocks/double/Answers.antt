-- `double` meets its contract: the pattern is that of the bytes, whose number is finite, so no NaN.
use Rattle.std.proofs.Common.{◌≡◌, ap, ◌∙◌, rules, from_bits}
use lib.Ieee.{binary64}
use lib.Ieee.Scale.{finite}
use Rattle.floats.proofs.Finite.{finite-pattern}
use Rattle.definition.specs.Reader.{little_endian}
use Rattle.kaldi.proofs.Values.{reads}
use Rattle.kaldi.proofs.kaldi_io.blocks.double.Goals as goal

pub float_from_bits-result : goal.float_from_bits-result
float_from_bits-result c =
    let pattern : c.from_le_bytes.result ≡ little_endian c.args.bytes.now = search (rules, reads) in
    finite-pattern binary64 _ (ap (λ n. finite (from_bits binary64 n)) pattern ∙ c.requires.good)
