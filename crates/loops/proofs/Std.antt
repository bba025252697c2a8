-- What the library's methods leave of a room, by `put`, `over` and `fill`.
use mathlib.Core.Path.{◌≡◌, refl, sym, ap, ◌∙◌}
use mathlib.Core.List.{List, ◌++◌, append-nil}
use Prim.Native.Nat.{ℕ, ◌≤◌}
use native.Mathlib.Omega.{arith}
use lib.ListN.{length, take, drop, replicate, length-replicate, drop_of_length-le}
use lib.Seq.{length-take-le}
use Rattle.loops.specs.Lists.{build, over}
use Rattle.loops.specs.Ring.{put}
use Rattle.loops.specs.Inner.{fill}
use Rattle.loops.proofs.Build.{build_same}
use Rattle.loops.proofs.Fill.{put_back}

module _ {A : Type 0} where
  -- a part that a slice's method wrote: `room[a..e].copy_from_slice(xs)` and `room[..n].copy_from_slice(xs)`
  pub put_std : (a k : ℕ) (xs room : List A) → length xs ≡ k → take a room ++ (xs ++ drop k (drop a room)) ≡ put a xs room
  put_std = put_back

  pub over_std : (k : ℕ) (xs room : List A) → length xs ≡ k → xs ++ drop k room ≡ over xs room
  unfolding over
  over_std k xs room e = rw e refl

  -- `room[..n].fill(x)`: the last argument is `c.fill.ensures.after (λ y e. e)`; and `room.fill(x)`
  pub over_front : (n : ℕ) (x : A) (xs room : List A) → n ≤ length room → xs ≡ replicate (length (take n room)) x → xs ++ drop n room ≡ over (replicate n x) room
  over_front n x xs room l h =
      let e = h ∙ ap (λ (k : ℕ). replicate k x) (length-take-le n room l) in
      over_std n xs room (ap length e ∙ length-replicate n x) ∙ ap (λ (s : List A). over s room) e

  pub fill_whole : (x : A) (xs room : List A) → xs ≡ replicate (length room) x → xs ≡ fill (length room) (λ k. x) room
  unfolding fill
  fill_whole x xs room h = h ∙ sym (build_same (length room) x) ∙ sym (append-nil _) ∙ ap (λ (s : List A). build (length room) (λ k. x) ++ s) (sym (drop_of_length-le room (omega arith)))
