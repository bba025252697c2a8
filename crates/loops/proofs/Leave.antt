-- Laws of a counted loop that may be left from inside.
use mathlib.Core.Path.{◌≡◌, refl, sym, ap, ◌∙◌}
use mathlib.Core.Bool.{Bool, false, not}
use mathlib.Core.Logic.{⊎_elim}
use Prim.Native.Nat.{ℕ, zero, suc, ◌+◌, ◌≤◌, ◌<◌}
use native.Mathlib.Nat.{eq-or-lt_of_le, le_of_suc-le-suc}
use native.Mathlib.Numerals.{add-one}
use native.Mathlib.Omega.{arith}
use Rattle.loops.specs.Loop.{Out, on, off, next, leave, final}
use Rattle.loops.specs.Inner.{done}
use Rattle.loops.proofs.Loop.{at_end}

module _ {S : Type 0} (f : ℕ → S → Out S) (s : S) where
  pub leave_none : on s ≡ leave 0 f s
  unfolding leave
  leave_none = refl

  pub leave_suc : (n : ℕ) → leave (suc n) f s ≡ next (f n) (leave n f s)
  unfolding leave
  leave_suc n = refl

  pub leave_more : (n : ℕ) → leave (n + 1) f s ≡ next (f n) (leave n f s)
  leave_more n = ap (λ (k : ℕ). leave k f s) (add-one n) ∙ leave_suc n

  -- a turn, to its end or to where it leaves
  pub leave_step : (i : ℕ) {x : S} {y : Out S} → on x ≡ leave i f s → y ≡ f i x → y ≡ leave (i + 1) f s
  leave_step i e h = h ∙ ap (next (f i)) e ∙ sym (leave_more i)

  pub leave_end : (i n : ℕ) {x : S} → i ≤ n → n ≤ i → on x ≡ leave i f s → on x ≡ leave n f s
  leave_end i n = at_end (λ k. leave k f s) i n

  -- what has left stays
  pub left_stays : (i n : ℕ) {x : S} → i ≤ n → off x ≡ leave i f s → off x ≡ leave n f s
  left_stays i zero p e = at_end (λ k. leave k f s) i 0 p (omega arith) e
  left_stays i (suc n) p e =
      ⊎_elim (λ q. e ∙ ap (λ (k : ℕ). leave k f s) q) (λ q. ap (next (f n)) (left_stays i n (le_of_suc-le-suc q) e) ∙ sym (leave_suc n)) (eq-or-lt_of_le p)

  -- the loop is left from inside turn i
  pub leave_left : (i n : ℕ) {x y : S} → i < n → on x ≡ leave i f s → off y ≡ f i x → off y ≡ leave n f s
  leave_left i n p e h = left_stays (i + 1) n (omega arith) (leave_step i e h)

-- a Bool says that the turn was the last
pub goes_on : {S : Type 0} (b : Bool) (x : S) → b ≡ false → on x ≡ done (not b) x
goes_on b x e = rw e

next-keeps : {S : Type 0} (P : S → Type 0) (f : S → Out S) (o : Out S) → ((x : S) → P x → P (final (f x))) → P (final o) → P (final (next f o))
next-keeps P f (on x) k p = k x p
next-keeps P f (off x) k p = p

-- what holds at the start and is kept by each turn holds at the end
pub leave-keeps : {S : Type 0} (P : S → Type 0) (n : ℕ) (f : ℕ → S → Out S) (s : S) → ((i : ℕ) → i < n → (x : S) → P x → P (final (f i x))) → P s → P (final (leave n f s))
unfolding leave
leave-keeps P zero f s k p = p
leave-keeps P (suc n) f s k p = next-keeps P (f n) (leave n f s) (k n (omega arith)) (leave-keeps P n f s (λ i h. k i (omega arith)) p)

-- for `search (loops, leaves)`
pub ruleset leaves = (leave_none, leave_step, leave_end, leave_left)
