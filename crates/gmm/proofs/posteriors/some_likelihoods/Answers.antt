-- `posteriors::some_likelihoods` meets its contract, by the invariants in Invariants.antt: place k is narrowed from its own exponential.
use mathlib.Core.Path.{sym, ap, ◌∙◌}
use native.Mathlib.Omega.{arith}
use lib.Ieee.{Float}
use Prim.Native.Nat.{◌+◌}
use Rattle.floats.specs.Operators.{◌/₆₄◌, as_f64}
use Rattle.floats.specs.Exp.{wide_exp}
use Rattle.gmm.proofs.posteriors.some_likelihoods.Goals as goal

pub exp_narrow-requires : goal.exp_narrow-requires
exp_narrow-requires c =
    let k = c.loop-k.k in
    c.loop-j.invariant.1 k (omega arith) ∙ ap (λ (x : Float). wide_exp (x /₆₄ as_f64 128)) (sym (c.loop-k.invariant.2.past (c.args.first + k) (omega arith)))
