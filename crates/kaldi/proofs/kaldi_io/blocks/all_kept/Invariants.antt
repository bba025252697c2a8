-- The loop of `all_kept`: the first i numbers are to be kept.
use Rattle.std.proofs.Common.{◌≡◌, ℕ, ◌<◌, true}
use Rattle.floats.specs.Operators.{at}
use Rattle.definition.specs.Reader.{numbers, kept}
use Rattle.kaldi.proofs.kaldi_io.blocks.all_kept.Given as goal

abbrev pub invariant-loop-i : goal.invariant-loop-i
invariant-loop-i g l = (k : ℕ) → k < l.i → kept l.positive (at (numbers g.K.Real.format g.W.Real.format l.n l.bytes) k) ≡ true
