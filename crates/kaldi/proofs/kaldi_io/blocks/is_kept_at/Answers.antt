-- `is_kept_at` meets its contract: a number that is not narrowed is kept as it is written (`whole_at` in Values.antt).
use Rattle.std.proofs.Common.{◌≤◌, ap, ◌∙◌, arith, from_bits}
use Rattle.floats.specs.Real.{byte_width}
use Rattle.definition.specs.Reader.{little_endian, kept}
use Rattle.kaldi.proofs.Values.{whole_at}
use Rattle.kaldi.proofs.kaldi_io.blocks.is_kept_at.Goals as goal

pub returns-else-BYTES : goal.returns-else-BYTES
returns-else-BYTES g c =
    let narrow : byte_width g.W.Real.format ≤ byte_width g.K.Real.format = omega (arith, c.if-BYTES.false, c.BYTES.ensures, c.BYTES-2.ensures, g.met.K.Real.bytes, g.met.W.Real.bytes) in
    c.is_kept_whole.ensures
    ∙ ap (λ l. kept c.args.positive (from_bits g.W.Real.format (little_endian l))) c.part.ensures.value
    ∙ ap (kept c.args.positive) (whole_at g.K.Real.format g.W.Real.format c.args.n c.args.bytes.now c.args.i c.requires.inside narrow)
