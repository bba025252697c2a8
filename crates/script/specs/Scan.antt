-- Numbers, lists and lines of a script: a line is a letter and tokens, parted by one space each, and ends with byte 10.
use Rattle.std.specs.Prelude.{ℕ, ◌<◌, ◌≤◌, zero, suc, ◌+◌, ◌-◌, ◌*◌, ◌^◌, true, false, ◌&&◌, List, [], ◌∷◌, eqb, leb, ltb, length, drop, get_or, if◌then◌else◌}
use Rattle.script.specs.declared.Scan.{Scan}
use Rattle.script.specs.declared.Signed.{Signed}

-- the digit that a byte stands for, 16 where it stands for none
unfoldable pub digit_of : ℕ → ℕ
digit_of b = if leb 48 b && leb b 57 then b - 48 else if leb 97 b && leb b 102 then b - 87 else 16

-- a number with the digits v so far goes on at a byte that is a digit of the base, where it fits in 64 bits with it, and else ends
abbrev pub GoesOn : ℕ → ℕ → ℕ → Type 0
GoesOn base v b = (digit_of b < base) × (v * base + digit_of b < 2 ^ 64)

abbrev pub Ends : ℕ → ℕ → ℕ → Type 0
Ends base v b = digit_of b < base → 2 ^ 64 ≤ v * base + digit_of b

-- the number at the front of the bytes left at place `at`, v being its digits so far; it ends before what is no digit of the base, or would
-- not fit in 64 bits. The byte that ends it is passed
unfoldable pub number_at : ℕ → ℕ → List ℕ → ℕ → Scan
number_at base v [] at = record { value = v; next = at }
number_at base v (b ∷ bs) at =
    let rest = number_at base (v * base + digit_of b) bs (at + 1) in
    if ltb (digit_of b) base && ltb (v * base + digit_of b) (2 ^ 64) then rest else record { value = v; next = at + 1 }

-- the place after, in the text
unfoldable pub step_at : List ℕ → ℕ → ℕ
step_at text at = if ltb at (length text) then at + 1 else at

-- the decimal number at a place of a text, which may have a minus sign (45) in front
unfoldable pub signed_at : List ℕ → ℕ → Signed
signed_at text at =
    let n = number_at 10 0 (drop at text) at in
    let m = number_at 10 0 (drop (step_at text at) text) (step_at text at) in
    if eqb (get_or text at 0) 45 then record { minus = true; size = m.value; next = m.next } else record { minus = false; size = n.value; next = n.next }

-- n moved by a number that may have a minus sign; as it is where the sum does not fit in 64 bits
unfoldable pub moved_by : ℕ → Signed → ℕ
moved_by n by = if by.minus then n - by.size else if ltb (n + by.size) (2 ^ 64) then n + by.size else n

-- where the next line begins
unfoldable pub line_at : List ℕ → ℕ → ℕ
line_at [] at = at
line_at (b ∷ bs) at = let rest = line_at bs (at + 1) in if eqb b 10 then at + 1 else rest

-- where the last line ends that the first n bytes of a text have to its end; 0 where they have none
unfoldable pub lines_end : List ℕ → ℕ → ℕ
lines_end text zero = 0
lines_end text (suc i) = if eqb (get_or text i 0) 10 then suc i else lines_end text i

-- how many of the n bytes that were read into a room are lines to play
unfoldable pub whole_lines : List ℕ → ℕ → ℕ
whole_lines room n = if ltb n (length room) then n else lines_end room (length room)
