-- `is_kept_whole` meets its contract: where it has to be above zero too, it is read as the definition reads it (`read_bytes`, `above_kept` in Values.antt).
use Rattle.std.proofs.Common.{◌≡◌, true, ap, ◌∙◌, rules, from_bits}
use lib.Ieee.{lt}
use lib.Ieee.Scale.{finite}
use Rattle.floats.specs.Operators.{zero₃₂}
use Rattle.definition.specs.Reader.{little_endian}
use Rattle.kaldi.proofs.Values.{read_bytes, above_kept}
use Rattle.kaldi.proofs.kaldi_io.blocks.is_kept_whole.Goals as goal

pub returns-else-not-positive : goal.returns-else-not-positive
returns-else-not-positive g c =
    let f = g.W.Real.format in
    let x = c.read.ensures ∙ ap (from_bits f) (read_bytes g.W.Real.word f c.args.bytes.now g.met.W.Real.word_bytes c.requires) in
    let whole : finite (from_bits f (little_endian c.args.bytes.now)) ≡ true = search rules in
    let positive : c.args.positive ≡ true = search rules in
    above_kept c.args.positive c.is_above_zero.result _ positive whole (c.is_above_zero.ensures ∙ ap (lt zero₃₂) x)
