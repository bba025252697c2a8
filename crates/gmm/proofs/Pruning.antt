-- Laws of pruning, with m left.
use mathlib.Core.Path.{◌≡◌, refl}
use mathlib.Core.Bool.{true, false}
use mathlib.Core.List.{List}
use Prim.Native.Nat.{ℕ, zero, suc, ◌-◌, ◌≤◌, ◌<◌}
use native.Mathlib.Nat.{not-suc-le-zero, le_of_suc-le-suc}
use native.Mathlib.Omega.{arith}
use lib.ListN.{length, get_or}
use lib.Ieee.{Float, nan, lt}
use Rattle.floats.specs.Operators.{◌-₃₂◌, at}
use Rattle.definition.specs.Posteriors.{Post, pruned}
use Rattle.gmm.specs.Inner.Leading.{posts_in}
use Rattle.gmm.proofs.Rooms.{held_at}

module _ (ps : List Post) (cut tot last : Float) where
  pub turn : (m : ℕ) → 1 < m → last ≡ (get_or ps (m - 1) (0, nan)).1 → lt last cut ≡ true → pruned ps cut (m - 1) (tot -₃₂ last) ≡ pruned ps cut m tot
  unfolding pruned
  turn zero h e t = absurd (not-suc-le-zero h)
  turn (suc zero) h e t = absurd (not-suc-le-zero (le_of_suc-le-suc h))
  turn (suc (suc m)) h e t =
      let o : suc (suc m) - 1 ≡ suc m = omega arith in
      let e' : last ≡ (get_or ps (suc m) (0, nan)).1 = rw o at e in
      rw (o, ← e', t)

  pub keep : (m : ℕ) → 1 < m → last ≡ (get_or ps (m - 1) (0, nan)).1 → lt last cut ≡ false → (m, tot) ≡ pruned ps cut m tot
  unfolding pruned
  keep zero h e t = absurd (not-suc-le-zero h)
  keep (suc zero) h e t = absurd (not-suc-le-zero (le_of_suc-le-suc h))
  keep (suc (suc m)) h e t =
      let o : suc (suc m) - 1 ≡ suc m = omega arith in
      let e' : last ≡ (get_or ps (suc m) (0, nan)).1 = rw o at e in
      rw (← e', t)

pub prune_end : (ps : List Post) (cut tot : Float) (m : ℕ) → m ≤ 1 → (m, tot) ≡ pruned ps cut m tot
unfolding pruned
prune_end ps cut tot zero h = refl
prune_end ps cut tot (suc zero) h = refl
prune_end ps cut tot (suc (suc m)) h = absurd (not-suc-le-zero (le_of_suc-le-suc h))

-- over the rooms
module _ (n : ℕ) (chosen : List ℕ) (posts : List Float) (cut tot : Float) (m : ℕ) (l : n ≤ length posts) (g : m ≤ n) (o : 1 < m) (h : n ≤ length chosen) where
  pub prune_turn : lt (at posts (m - 1)) cut ≡ true → pruned (posts_in n chosen posts) cut (m - 1) (tot -₃₂ at posts (m - 1)) ≡ pruned (posts_in n chosen posts) cut m tot
  prune_turn t = turn (posts_in n chosen posts) cut tot _ m o (rw (held_at n chosen posts h l (0, nan) (m - 1) (omega arith))) t

  pub prune_keep : lt (at posts (m - 1)) cut ≡ false → (m, tot) ≡ pruned (posts_in n chosen posts) cut m tot
  prune_keep t = keep (posts_in n chosen posts) cut tot _ m o (rw (held_at n chosen posts h l (0, nan) (m - 1) (omega arith))) t
