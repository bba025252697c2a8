-- The block's bytes and bits: the interrupt, the flags of a call, and eleven stores that rewrite a block.
use mathlib.Core.Path.{◌≡◌, refl, ap, ◌∙◌}
use mathlib.Core.Bool.{Bool, true, false, ◌&&◌}
use mathlib.Core.List.{List, [], ◌∷◌}
use Prim.Native.Nat.{ℕ, zero, suc, ◌+◌, ◌*◌, ◌/◌, ◌%◌, ◌<◌}
use native.Mathlib.Nat.{mod-add-div', add-mul-div_right, div-eq_of_lt}
use Rattle.std.proofs.Math.Nat.{div-div-eq-div-mul}
use mir.Val.{bool_byte}
use native.Mathlib.Omega.{arith}
use borrow.Author.Tests.{ne_eqb}
use Rattle.definition.specs.Reader.{little_endian}
use Rattle.board.specs.Board.{byte, bytes_of, bit, interrupt_of, call_flags, rewritten}

-- ---- bits

pub flags_low : (f : Bool) (r : ℕ) → call_flags f r < 4
unfolding call_flags
flags_low f zero = by f
  where
    by : (f : Bool) → bit (f && true) + 2 * 0 < 4
    by true = omega arith
    by false = omega arith
flags_low f (suc r) = rw (ne_eqb (suc r) 0 (λ e. omega arith)) (by f)
  where
    by : (f : Bool) → bit (f && false) + 2 * 1 < 4
    by true = omega arith
    by false = omega arith

-- bit 2 of flags whose bits 0 and 1 are `low`
pub third-bit : (low : ℕ) (room : Bool) → low < 4 → (low + 4 * bit room) / 4 % 2 ≡ bit room
third-bit low true h = ap (λ (n : ℕ). n % 2) (add-mul-div_right low 1 (omega arith) ∙ ap (λ (n : ℕ). n + 1) (div-eq_of_lt h))
third-bit low false h = ap (λ (n : ℕ). n % 2) (add-mul-div_right low 0 (omega arith) ∙ ap (λ (n : ℕ). n + 0) (div-eq_of_lt h))

-- ---- numbers in bytes

-- a count below 2^32 is read back from its four bytes
pub read_back : (n : ℕ) → n < 4294967296 → little_endian (bytes_of 4 n) ≡ n
unfolding little_endian bytes_of
read_back n h =
    let a = n / 256 in
    let b = a / 256 in
    let c = b / 256 in
    let d : c / 256 ≡ 0 = div-eq_of_lt (omega (arith, mod-add-div' n 256, mod-add-div' a 256, mod-add-div' b 256)) in
    omega (arith, mod-add-div' n 256, mod-add-div' a 256, mod-add-div' b 256, mod-add-div' c 256)

-- ---- the block that a step leaves

bits : (t : Bool) → bool_byte t ≡ bit t
bits true = refl
bits false = refl

-- its sixteen bytes, the count's four written by their weights
pub rewritten_is : (b : List ℕ) (low number held : ℕ) (room : Bool) {r line h0 h1 h2 h3 : ℕ}
    → r ≡ bool_byte room → line ≡ interrupt_of (low + 4 * r) (byte b 2) → h0 ≡ held % 256 → h1 ≡ held / 256 % 256 → h2 ≡ held / 65536 % 256 → h3 ≡ held / 16777216 % 256
    → 0 ∷ (low + 4 * r) ∷ byte b 2 ∷ line ∷ byte b 4 ∷ byte b 5 ∷ byte b 6 ∷ byte b 7 ∷ h0 ∷ h1 ∷ h2 ∷ h3 ∷ number ∷ 0 ∷ 0 ∷ 0 ∷ []
    ≡ rewritten b low number held room
unfolding rewritten bytes_of
rewritten_is b low number held room e f a0 a1 a2 a3 =
    rw (f, a0, a1, a2, a3, e, bits room, div-div-eq-div-mul held 256 256, div-div-eq-div-mul held 65536 256) refl
