-- Lists of items, read into a room one after the other: the room after one item more.
use Prim.Native.Nat.{ℕ, ◌+◌}
use mathlib.Core.Path.{◌≡◌, refl, ap, ◌∙◌}
use mathlib.Core.List.{List}
use lib.ListN.{set}
use Rattle.loops.specs.Loop.{iter}
use Rattle.loops.proofs.Loop.{iter_step}

-- the room after no item, and after one item more
pub room-none : {A : Type 0} (f : ℕ → A) (room : List A) → room ≡ iter 0 (λ j s. set s j (f j)) room
unfolding iter
room-none f room = refl

pub room-turn : {A : Type 0} (f : ℕ → A) (room : List A) (i : ℕ) {l k : List A} {v : A} → l ≡ iter i (λ j s. set s j (f j)) room → k ≡ set l i v → v ≡ f i → k ≡ iter (i + 1) (λ j s. set s j (f j)) room
room-turn f room i {l} e h q = iter_step _ room i e (h ∙ ap (set l i) q)

-- the text that is left behind no item
pub rest_none : (behind : List ℕ → List ℕ) (text : List ℕ) → text ≡ iter 0 (λ _ rest. behind rest) text
unfolding iter
rest_none behind text = refl
