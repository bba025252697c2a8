-- `leading::ahead` meets its contract, by its tests; no search is asked.
use mathlib.Core.Path.{◌≡◌, refl, sym, ◌∙◌}
use mathlib.Core.Bool.{true, false}
use lib.Ieee.{is_nan}
use Rattle.gmm.proofs.leading.ahead.Goals as goal

pub returns-then-is_nan : goal.returns-then-is_nan
returns-then-is_nan c =
    let number : is_nan c.args.p ≡ false = sym c.is_nan.ensures.value ∙ c.if-not-is_nan.true in
    let last : is_nan c.args.q ≡ true = sym c.is_nan-then-not-is_nan.ensures.value ∙ c.if-is_nan.true in
    rw (number, last) c.if-is_nan.true

pub returns-else-is_nan : goal.returns-else-is_nan
returns-else-is_nan c =
    let number : is_nan c.args.p ≡ false = sym c.is_nan.ensures.value ∙ c.if-not-is_nan.true in
    let other : is_nan c.args.q ≡ false = sym c.is_nan-then-not-is_nan.ensures.value ∙ c.if-is_nan.false in
    rw (number, other) refl
