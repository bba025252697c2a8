-- How long the CMVN text is.
use mathlib.Core.Path.{◌≡◌, refl}
use mathlib.Core.List.{List, [], ◌∷◌, ◌++◌}
use Prim.Native.Nat.{ℕ, ◌+◌, ◌*◌}
use native.Mathlib.Omega.{arith}
use lib.ListN.{length, length-append}
use Rattle.loops.specs.Lists.{flat}
use Rattle.loops.proofs.Flat.{length_flat}
use Rattle.lists.specs.Files.{cmvn_file}

-- the same bytes n times
pub long : (n : ℕ) (w : List ℕ) → length (flat n (λ i. w)) ≡ n * length w
long n w = length_flat (length w) n (λ i. w) (λ k h. refl)

pub length-cmvn_file : (dim : ℕ) → length (cmvn_file dim) ≡ 11 + dim * 3 + dim * 3
unfolding cmvn_file
length-cmvn_file dim =
    let sums : List ℕ = flat dim (λ i. 53 ∷ 48 ∷ 32 ∷ []) in
    omega (arith, long dim (53 ∷ 48 ∷ 32 ∷ []), length-append sums (49 ∷ 48 ∷ 48 ∷ 10 ∷ (sums ++ (49 ∷ 48 ∷ 48 ∷ 32 ∷ 93 ∷ []))), length-append sums (49 ∷ 48 ∷ 48 ∷ 32 ∷ 93 ∷ []))
