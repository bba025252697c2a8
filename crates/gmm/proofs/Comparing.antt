-- What tests of floats tell.
use Rattle.std.proofs.lemmas.Float.{T_from_true, T_from_false, lt_of_not-le, lt_of_le_of_lt, lt_irrefl, le_right}
use mathlib.Core.Path.{◌≡◌, ap, ◌∙◌}
use mathlib.Core.Bool.{true, false, not, ◌&&◌, ◌||◌}
use borrow.Author.Tests.{not-true, not-false}
use lib.Ieee.{Float, is_nan, lt, le, eq, ne}
use Rattle.loops.proofs.Choose.{by-test}
use Rattle.floats.proofs.Patterns.{is_nan_lem}

-- a NaN differs from itself
pub nan_is : (x : Float) → ne x x ≡ true → is_nan x ≡ true
unfolding is_nan
nan_is x e = ap is_nan (is_nan_lem x e)

pub differs : (x y : Float) → ne x y ≡ true → eq x y ≡ false
unfolding ne
differs x y e = not-true (eq x y) e

pub same : (x y : Float) → ne x y ≡ false → eq x y ≡ true
unfolding ne
same x y e = not-false (eq x y) e

-- ---- what is not behind a number

not-above : (v p : Float) → le v p ≡ true → lt p v ≡ false
not-above v p e = by-test (lt p v) (λ t. absurd (lt_irrefl v (lt_of_le_of_lt v p v (T_from_true (le v p) e) (T_from_true (lt p v) t)))) (λ t. t)

below_it : (v p : Float) → is_nan v ≡ false → is_nan p ≡ false → le v p ≡ false → lt p v ≡ true
below_it v p n m e =
    let h = lt_of_not-le v p (T_from_false (is_nan v) n) (T_from_false (is_nan p) m) (T_from_false (le v p) e) in
    by-test (lt p v) (λ t. t) (λ t. absurd (rw t at h))

nan_behind : (v p : Float) → is_nan p ≡ true → le v p ≡ false
nan_behind v p m = by-test (le v p) (λ e. let h = le_right v p (T_from_true (le v p) e) in absurd (rw m at h)) (λ e. e)

-- it is not below it, nor a NaN
pub stays_is : (v p : Float) → is_nan v ≡ false → le v p ≡ not (not (is_nan v) && (is_nan p || lt p v))
stays_is v p n =
    by-test (is_nan p) (λ m. nan_behind v p m ∙ rw (n, m))
    (λ m. by-test (le v p) (λ e. e ∙ rw (n, m, not-above v p e)) (λ e. e ∙ rw (n, m, below_it v p n m e)))
