-- The lines of a script: each is the text from its first byte on.
use Rattle.std.specs.Prelude.{ℕ, Bool, true, false, List, [], drop, codes, ◌++◌, ◌∷◌, ◌≡◌}
use Rattle.std.specs.Borrow.{Bor}
use Rattle.std.specs.Option.{MatchOption}
use Rattle.std.specs.declared.option.Option.{Option}
use Rattle.script.specs.Scan.{line_at}

-- a text gives itself as its first line and leaves what stands behind that line; an empty one gives none
abbrev pub GivesLine : List ℕ → Option (Bor (List ℕ)) → List ℕ → Type 0
GivesLine text line rest = MatchOption line ((text ≡ []) × (rest ≡ [])) (λ l. (l.now ≡ text) × (rest ≡ drop (line_at text 0) text))

-- what ends the answers to a script that is longer than the room for it, or fits
abbrev pub closing : Bool → List ℕ
closing true = codes "the script is longer than this program's room: the rest is not read" ++ (10 ∷ [])
closing false = []

-- texts one after the other, each behind a space
abbrev pub spaced : List (List ℕ) → List ℕ
spaced [] = []
spaced (text ∷ texts) = (32 ∷ text) ++ spaced texts
