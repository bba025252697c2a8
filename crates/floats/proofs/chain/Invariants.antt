-- `chain` gives the chain of 17 terms from 1 on, `chained 17 1 q`. The loop goes from the last term to the first: with n terms to come,
-- h is `chained (17 - n) (2 n + 1) q` (Series.antt).
use Rattle.std.proofs.Common.{◌≡◌, ◌+◌, ◌-◌, ◌*◌}
use Rattle.floats.specs.Ln.{chained}
use Rattle.floats.proofs.chain.Given as goal

-- n terms are to come: h is the chain from 1/(2 n + 1) on
abbrev pub invariant-loop-n : goal.invariant-loop-n
invariant-loop-n l = l.h ≡ chained (17 - l.n) (l.n * 2 + 1) l.q
