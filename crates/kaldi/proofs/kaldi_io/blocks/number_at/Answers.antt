-- `number_at` meets its contract: std's reading of its bytes is the definition's (Values.antt), by the laws of `Real` on their number.
use Rattle.std.proofs.Common.{ap, ◌∙◌, from_bits}
use Rattle.definition.specs.Reader.{little_endian}
use Rattle.kaldi.proofs.Values.{read_bytes}
use Rattle.kaldi.proofs.kaldi_io.blocks.number_at.Goals as goal

pub returns : goal.returns
returns g c =
    c.read.ensures
    ∙ ap (from_bits g.W.Real.format) (read_bytes g.W.Real.word g.W.Real.format _ g.met.W.Real.word_bytes c.part.ensures.count ∙ ap little_endian c.part.ensures.value)
