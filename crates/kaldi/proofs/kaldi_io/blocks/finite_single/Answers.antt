-- `finite_single` meets its contract: the pattern is that of the bytes, and its field says whether the number is finite (`finite_32` in Values.antt).
use Rattle.std.proofs.Common.{◌≡◌, rules}
use Rattle.definition.specs.Reader.{little_endian}
use Rattle.kaldi.proofs.Values.{reads, finite_32}
use Rattle.kaldi.proofs.kaldi_io.blocks.finite_single.Goals as goal

pub returns : goal.returns
returns c =
    let pattern : c.from_le_bytes-bits.result ≡ little_endian c.args.bytes.now = search (rules, reads) in
    finite_32 c.args.bytes.now _ pattern
