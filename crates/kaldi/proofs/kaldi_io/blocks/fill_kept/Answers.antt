-- `fill_kept` meets its contract: behind its loop each number is in its place (Values.antt).
use Rattle.std.proofs.Common.{arith}
use Rattle.kaldi.proofs.Values.{filled}
use Rattle.kaldi.proofs.kaldi_io.blocks.fill_kept.Goals as goal

pub returns : goal.returns
returns g c = filled _ _ _ _ _ c.loop-i.auto.out (λ k h. c.loop-i.invariant k (omega arith))
