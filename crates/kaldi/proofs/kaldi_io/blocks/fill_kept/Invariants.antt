-- The loop of `fill_kept`: the first i numbers are in their places.
use Rattle.std.proofs.Common.{◌≡◌, ℕ, ◌<◌}
use Rattle.std.specs.Float.{binary64}
use Rattle.floats.specs.Operators.{at}
use Rattle.definition.specs.Reader.{numbers}
use Rattle.kaldi.proofs.kaldi_io.blocks.fill_kept.Given as goal

abbrev pub invariant-loop-i : goal.invariant-loop-i
invariant-loop-i g l = (k : ℕ) → k < l.i → at l.out k ≡ at (numbers binary64 g.W.Real.format l.n l.bytes) k
