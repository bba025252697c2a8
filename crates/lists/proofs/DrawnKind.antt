-- The kind of a call that is drawn.
use mathlib.Core.Path.{◌≡◌, refl}
use mathlib.Core.List.{List}
use Prim.Native.Nat.{ℕ, zero, suc, ◌<◌}
use native.Mathlib.Nat.{mod-lt}
use native.Mathlib.Omega.{arith}
use lib.Ieee.{Float}
use Rattle.lists.specs.Draws.{draw, call_of, Drawing, kind_in, call_in}
use Rattle.lists.specs.Totals.{kind_of}

kind_of-call : (k : ℕ) (x : List Float) (f : ℕ) (w : Float) → k < 5 → kind_of (call_of k x f w) ≡ k
unfolding kind_of call_of
kind_of-call zero x f w h = refl
kind_of-call (suc zero) x f w h = refl
kind_of-call (suc (suc zero)) x f w h = refl
kind_of-call (suc (suc (suc zero))) x f w h = refl
kind_of-call (suc (suc (suc (suc zero)))) x f w h = refl
kind_of-call (suc (suc (suc (suc (suc k))))) x f w h = absurd (omega arith)

pub kind_of_drawn : (dim : ℕ) (d : Drawing) → kind_of (call_in dim d) ≡ kind_in d
kind_of_drawn dim d = kind_of-call (kind_in d) _ _ _ (mod-lt (draw d.state) {m = 5} (omega arith))
