-- Laws of a ring of rows: its places lie in the room, and rows of one window lie apart.
use Rattle.std.specs.Prelude.{if◌then◌else◌}
use mathlib.Core.Path.{◌≡◌, sym, ap, ◌∙◌}
use mathlib.Core.List.{List}
use mathlib.Core.Logic.{◌⊎◌, inl, inr, ⊎_elim}
use Prim.Native.Nat.{ℕ, suc, ◌+◌, ◌-◌, ◌*◌, ◌/◌, ◌%◌, ◌≤◌, ◌<◌}
use native.Mathlib.Nat.{suc-mul, zero-mul, mod-lt, mod_self, mod-add-mod, mod-eq_of_lt, mul-le-mul_right, div-mul-le_self, div-add-mod', lt-div-mul-add}
use native.Mathlib.Numerals.{add-one}
use native.Mathlib.Decide.{dec_le}
use native.Mathlib.Omega.{arith}
use borrow.Author.Tests.{le-leb, lt-leb}
use lib.Dec.{leb}
use lib.ListN.{length, get_or}
use Rattle.loops.specs.Ring.{rows_in, put, place}
use Rattle.loops.proofs.Cells.{row_in_lem}
use Rattle.loops.proofs.Choose.{choose_true, choose_false}
use Rattle.loops.proofs.Fill.{put_at, put_before, put_past}

-- as code computes it
pub place_is : (n w t r : ℕ) → r ≡ rows_in n w → t % r * w ≡ place n w t
unfolding place
place_is n w t r e = ap (λ (k : ℕ). t % k * w) e

-- a whole row lies within the room
pub place_in : (n w t : ℕ) → 0 < rows_in n w → place n w t + w ≤ n
unfolding place
place_in n w t p = row_in_lem (t % rows_in n w) (rows_in n w) w n (div-mul-le_self n w) (mod-lt t p)

-- the row after row t, with no division: a row further, or at the room's beginning where no whole row is left
module _ (n w t : ℕ) (some : 0 < w) (rows : 0 < rows_in n w) where
  next_mod : (t + 1) % rows_in n w ≡ (t % rows_in n w + 1) % rows_in n w
  next_mod = sym (mod-add-mod t (rows_in n w) 1)

  row_left : w + w ≤ n - t % rows_in n w * w → t % rows_in n w + 1 < rows_in n w
  row_left h = go (dec_le (rows_in n w) (suc (t % rows_in n w)))
    where
      go : Dec (rows_in n w ≤ suc (t % rows_in n w)) → t % rows_in n w + 1 < rows_in n w
      go (yes z) = absurd (omega (arith, h, lt-div-mul-add {a = n} some, mul-le-mul_right w z, suc-mul (t % rows_in n w) w))
      go (no z) = omega (arith, z)

  row_last : n - t % rows_in n w * w < w + w → t % rows_in n w + 1 ≡ rows_in n w
  row_last h = go (dec_le (suc (suc (t % rows_in n w))) (rows_in n w))
    where
      go : Dec (suc (suc (t % rows_in n w)) ≤ rows_in n w) → t % rows_in n w + 1 ≡ rows_in n w
      go (yes z) = absurd (omega (arith, h, div-mul-le_self n w, mul-le-mul_right w z, suc-mul (suc (t % rows_in n w)) w, suc-mul (t % rows_in n w) w))
      go (no z) = omega (arith, z, mod-lt t rows)

  pub place_next : (if leb (w + w) (n - place n w t) then place n w t + w else 0) ≡ place n w (t + 1)
  unfolding place
  place_next = go (dec_le (w + w) (n - t % rows_in n w * w))
    where
      go : Dec (w + w ≤ n - t % rows_in n w * w) → (if leb (w + w) (n - t % rows_in n w * w) then t % rows_in n w * w + w else 0) ≡ (t + 1) % rows_in n w * w
      go (yes h) =
          let e : (t + 1) % rows_in n w ≡ suc (t % rows_in n w) = next_mod ∙ mod-eq_of_lt (row_left h) ∙ add-one (t % rows_in n w) in
          sym (choose_true 0 (le-leb (w + w) (n - t % rows_in n w * w) h) (ap (λ (k : ℕ). k * w) e ∙ suc-mul (t % rows_in n w) w))
      go (no h) =
          let e : (t + 1) % rows_in n w ≡ 0 = next_mod ∙ ap (λ (k : ℕ). k % rows_in n w) (row_last (omega (arith, h))) ∙ mod_self (rows_in n w) in
          sym (choose_false (t % rows_in n w * w + w) (lt-leb (w + w) (n - t % rows_in n w * w) (omega (arith, h))) (ap (λ (k : ℕ). k * w) e ∙ zero-mul w))

-- numbers less than r apart have different remainders
pub mod_apart : (r t u : ℕ) → t < u → u < t + r → t % r ≡ u % r → ⊥
mod_apart r t u l h e = go (dec_le (u / r) (t / r))
  where
    go : Dec (u / r ≤ t / r) → ⊥
    go (yes k) = omega (arith, div-add-mod' t r, div-add-mod' u r, mul-le-mul_right r k)
    go (no k) =
        let q : suc (t / r) ≤ u / r = omega arith in
        omega (arith, div-add-mod' t r, div-add-mod' u r, mul-le-mul_right r q, suc-mul (t / r) r)

-- all of a lower row lies before all of a higher one
pub row_apart : (w p q : ℕ) → p < q → p * w + w ≤ q * w
row_apart w p q h = omega (arith, mul-le-mul_right w h, suc-mul p w)

-- rows t and u of one window: one ends before the other begins
pub rows_apart : (n w t u : ℕ) → t < u → u < t + rows_in n w → (place n w t + w ≤ place n w u) ⊎ (place n w u + w ≤ place n w t)
unfolding place
rows_apart n w t u l h = go (dec_le (suc (t % rows_in n w)) (u % rows_in n w)) (dec_le (suc (u % rows_in n w)) (t % rows_in n w))
  where
    go : Dec (suc (t % rows_in n w) ≤ u % rows_in n w) → Dec (suc (u % rows_in n w) ≤ t % rows_in n w) → (place n w t + w ≤ place n w u) ⊎ (place n w u + w ≤ place n w t)
    go (yes p) b = inl (row_apart w _ _ p)
    go (no p) (yes q) = inr (row_apart w _ _ q)
    go (no p) (no q) = absurd (mod_apart (rows_in n w) t u l h (omega arith))

-- ---- row t is written: what stands there, and what stands in an earlier row of the window

module _ {A : Type 0} (d : A) (n w t : ℕ) (xs room : List A) (e : length room ≡ n) (f : length xs ≡ w) where
  pub ring_new : 0 < rows_in n w → (j : ℕ) → j < w → get_or (put (place n w t) xs room) (place n w t + j) d ≡ get_or xs j d
  ring_new p j h = put_at d (place n w t) xs room (omega (arith, place_in n w t p)) j (omega arith)

  pub ring_kept : (u : ℕ) → u < t → t < u + rows_in n w → (j : ℕ) → j < w → get_or (put (place n w t) xs room) (place n w u + j) d ≡ get_or room (place n w u + j) d
  ring_kept u l h j p =
      let q : place n w t ≤ length room = omega (arith, place_in n w t (omega arith)) in
      ⊎_elim (λ a. put_before d (place n w t) xs room q _ (omega arith)) (λ a. put_past d (place n w t) xs room q _ (omega arith)) (rows_apart n w u t l h)
