-- Loops on values: counted, and left from inside.
use Rattle.std.specs.Prelude.{ℕ, zero, suc}

-- `for i in 0..n { s = f(i, s) }`
unfoldable pub iter : {S : Type 0} → ℕ → (ℕ → S → S) → S → S
iter zero f s = s
iter (suc n) f s = f n (iter n f s)

-- what a turn says that may leave its loop: `on s` goes on, `off s` leaves
pub data Out (S : Type 0) : Type 0 where
  on : S → Out S
  off : S → Out S

abbrev pub next : {S : Type 0} → (S → Out S) → Out S → Out S
next f (on s) = f s
next f (off s) = off s

-- what stands after the turns f 0, f 1, .., f (n - 1), or after the first that leaves
unfoldable pub leave : {S : Type 0} → ℕ → (ℕ → S → Out S) → S → Out S
leave zero f s = on s
leave (suc n) f s = next (f n) (leave n f s)

abbrev pub final : {S : Type 0} → Out S → S
final (on s) = s
final (off s) = s
