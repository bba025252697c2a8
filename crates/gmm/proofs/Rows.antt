-- A row of a room that is lent, and comes back.
use Rattle.std.proofs.Common.{◌≡◌, ℕ, ◌+◌, ◌-◌, ◌≤◌, List, ◌++◌, length, take, drop, replicate, refl, ap, ◌∙◌, arith}
use lib.ListN.{length-replicate}
use lib.Ieee.{Float, nan}
use Rattle.loops.specs.Lists.{build}
use Rattle.loops.specs.Inner.{fill}
use Rattle.loops.specs.Ring.{put}
use Rattle.loops.proofs.Build.{length_build, build_ext}
use Rattle.loops.proofs.Fill.{fill_whole, put_back}
use Rattle.loops.proofs.Parts.{lent_is, length_lent, at_part}
use Rattle.floats.specs.Operators.{zero₆₄, at}

-- row k of rows of d, after a loop that makes each place from its old value
pub row_updated : (d a : ℕ) (room : List Float) {xs : List Float} (g : ℕ → Float → Float) → a + d ≤ length room
    → xs ≡ fill (length (take (a + d - a) (drop a room))) (λ k. g k (at (take (a + d - a) (drop a room)) k)) (take (a + d - a) (drop a room))
    → take a room ++ (xs ++ drop (a + d - a) (drop a room)) ≡ put a (build d (λ k. g k (at room (a + k)))) room
row_updated d a room {xs} g h e =
    let part = take (a + d - a) (drop a room) in
    let l : length part ≡ d = length_lent a d (a + d) room refl h in
    let f : xs ≡ build d (λ k. g k (at room (a + k))) =
    e ∙ ap (λ (n : ℕ). fill n (λ k. g k (at part k)) part) l ∙ fill_whole _ d part l
    ∙ build_ext d _ _ (λ k p. ap (g k) (ap (λ (s : List Float). at s k) (lent_is a d (a + d) room refl) ∙ at_part nan a d room k p)) in
    let n : d ≡ a + d - a = omega arith in
    put_back a (a + d - a) xs room (ap length f ∙ length_build d _ ∙ n) ∙ ap (λ (s : List Float). put a s room) f

-- the same, of zeros
pub row_cleared : (d a : ℕ) (room : List Float) {xs : List Float} → a + d ≤ length room → xs ≡ replicate d zero₆₄
    → take a room ++ (xs ++ drop (a + d - a) (drop a room)) ≡ put a (replicate d zero₆₄) room
row_cleared d a room {xs} h f =
    let n : d ≡ a + d - a = omega arith in
    put_back a (a + d - a) xs room (ap length f ∙ length-replicate d zero₆₄ ∙ n) ∙ ap (λ (s : List Float). put a s room) f
