-- The loop of `gconst`: the sum of the first k terms.
use Rattle.std.proofs.Common.{◌≡◌}
use Rattle.floats.specs.Operators.{sum₆₄}
use Rattle.kaldi.specs.Parts.{gmm_in}
use Rattle.model.proofs.Gmm.{term}
use Rattle.model.proofs.ivector_tables.gconst.Given as goal

abbrev pub invariant-loop-k : goal.invariant-loop-k
invariant-loop-k l = l.gc ≡ sum₆₄ l.initial.gc l.k (term (gmm_in l.gmm) l.g)
