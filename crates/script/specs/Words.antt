-- What is read from the front of a text, and what is left behind it.
use Rattle.std.specs.Prelude.{ℕ, ◌+◌, ◌*◌, ◌^◌, ◌%◌, List, ltb, drop, get_or, set, if◌then◌else◌, ℤ, pos, ◌-ℤ◌}
use Rattle.loops.specs.Loop.{iter}
use Rattle.script.specs.declared.Signed.{Signed}
use Rattle.script.specs.Scan.{digit_of, number_at, signed_at}

-- the number at the front of a text, and what is left behind it
abbrev pub value_at_front : ℕ → List ℕ → ℕ
value_at_front base text = (number_at base 0 text 0).value

abbrev pub behind_number : ℕ → List ℕ → List ℕ
behind_number base text = drop (number_at base 0 text 0).next text

-- the same of a decimal number that may have a minus sign
abbrev pub signed_at_front : List ℕ → Signed
signed_at_front text = signed_at text 0

abbrev pub behind_signed : List ℕ → List ℕ
behind_signed text = drop (signed_at text 0).next text

-- the phone of such a number
unfoldable pub phone_of : Signed → ℤ
phone_of by = let phone = pos (by.size % 2 ^ 30) in if by.minus then pos 0 -ℤ phone else phone

-- what is left behind n items, each of which leaves `behind`; and a room into which they are read: what is past its end is read and not kept
unfoldable pub behind_items : (List ℕ → List ℕ) → List ℕ → ℕ → List ℕ
behind_items behind text n = iter n (λ _ rest. behind rest) text

unfoldable pub items_read : {A : Type 0} → (List ℕ → A) → (List ℕ → List ℕ) → List ℕ → ℕ → List A → List A
items_read item behind text n room = iter n (λ i l. set l i (item (behind_items behind text i))) room

-- a byte by two hexadecimal digits, of which what is none counts as 0
abbrev pub half_of : ℕ → ℕ
half_of b = if ltb (digit_of b) 16 then digit_of b else 0

abbrev pub hex_at : List ℕ → ℕ → ℕ
hex_at text i = half_of (get_or text (2 * i) 0) * 16 + half_of (get_or text (2 * i + 1) 0)
