-- Laws of a counted loop.
use mathlib.Core.Path.{◌≡◌, refl, sym, ap, ◌∙◌}
use Prim.Native.Nat.{ℕ, zero, suc, ◌+◌, ◌≤◌, ◌<◌}
use native.Mathlib.Nat.{le_antisymm, add-zero, add-suc}
use native.Mathlib.Numerals.{add-one}
use native.Mathlib.Omega.{arith}
use borrow.Author.Rules.{rules}
use Rattle.loops.specs.Loop.{iter}

-- the end of any loop that counts up to n
pub at_end : {A : Type 0} {x : A} (g : ℕ → A) (i n : ℕ) → i ≤ n → n ≤ i → x ≡ g i → x ≡ g n
at_end g i n p q e = e ∙ ap g (le_antisymm p q)

module _ {S : Type 0} (f : ℕ → S → S) (s : S) where
  pub iter_none : s ≡ iter 0 f s
  unfolding iter
  iter_none = refl

  pub iter_suc : (n : ℕ) → iter (suc n) f s ≡ f n (iter n f s)
  unfolding iter
  iter_suc n = refl

  -- as code counts
  pub iter_more : (n : ℕ) → iter (n + 1) f s ≡ f n (iter n f s)
  iter_more n = ap (λ (k : ℕ). iter k f s) (add-one n) ∙ iter_suc n

  -- a turn: from the state at i to the state at i + 1
  pub iter_next : (i : ℕ) {x : S} → x ≡ iter i f s → f i x ≡ iter (i + 1) f s
  iter_next i e = ap (f i) e ∙ sym (iter_more i)

  -- the same, where what the turn leaves is f i x by equations
  pub iter_step : (i : ℕ) {x y : S} → x ≡ iter i f s → y ≡ f i x → y ≡ iter (i + 1) f s
  iter_step i e h = h ∙ iter_next i e

  pub iter_end : (i n : ℕ) {x : S} → i ≤ n → n ≤ i → x ≡ iter i f s → x ≡ iter n f s
  iter_end i n = at_end (λ k. iter k f s) i n

  -- the end of a loop that comes after another
  pub iter_then : (i n : ℕ) {x t : S} → i ≤ n → n ≤ i → x ≡ iter i f t → t ≡ s → x ≡ iter n f s
  iter_then i n {t = t} p q e h = at_end (λ k. iter k f t) i n p q e ∙ ap (iter n f) h

  -- the first a turns, then the other n
  pub iter_add : (a n : ℕ) → iter (a + n) f s ≡ iter n (λ t. f (a + t)) (iter a f s)
  unfolding iter
  iter_add a zero = rw (add-zero a)
  iter_add a (suc n) = rw (add-suc a n) (ap (f (a + n)) (iter_add a n))

-- what holds at the start and is kept by each turn holds at the end
pub iter-keeps : {S : Type 0} (P : S → Type 0) (n : ℕ) (f : ℕ → S → S) (s : S) → ((i : ℕ) → i < n → (x : S) → P x → P (f i x)) → P s → P (iter n f s)
unfolding iter
iter-keeps P zero f s k p = p
iter-keeps P (suc n) f s k p = k n (omega arith) (iter n f s) (iter-keeps P n f s (λ i h. k i (omega arith)) p)

-- turns that agree leave the same
pub iter_ext : {S : Type 0} (n : ℕ) (f g : ℕ → S → S) (s : S) → ((i : ℕ) → i < n → (x : S) → f i x ≡ g i x) → iter n f s ≡ iter n g s
unfolding iter
iter_ext zero f g s e = refl
iter_ext (suc n) f g s e = e n (omega arith) (iter n f s) ∙ ap (g n) (iter_ext n f g s (λ i h. e i (omega arith)))

-- what the needs of a counted loop are searched with
pub ruleset loops = (rules, iter_none, iter_next, iter_step, iter_end, iter_then)
