-- `leading::enters` meets its contract: what is not ahead of the last is ahead of none (`in_front` in Sliding.antt).
use mathlib.Core.Path.{sym, ◌∙◌}
use mathlib.Core.Bool.{false≢true}
use native.Mathlib.Omega.{arith}
use Rattle.gmm.proofs.Sliding.{in_front}
use Rattle.gmm.proofs.leading.enters.Goals as goal

pub returns-then-n-eq0 : goal.returns-then-n-eq0
returns-then-n-eq0 c = (λ e. absurd (false≢true e), λ e k s. absurd (omega arith))

pub returns : goal.returns
returns c =
    let e = sym c.ahead.ensures in
    (λ t. (omega arith, e ∙ t), λ t. in_front _ _ _ _ c.requires.1 (omega arith) (omega arith) (e ∙ t))
