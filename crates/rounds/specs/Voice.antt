-- Whose voice it is: of 1 to 32 enrolled vectors the nearest to a given one. All are lists of f32 bits, as a fetch gives a vector out; the enrolled
-- vectors stand one after the other in one list, n numbers each.
use Rattle.std.specs.Prelude.{◌≡◌, Result, Ok, Err, Option, Some, None, ℕ, zero, suc, ◌+◌, ◌-◌, ◌*◌, ◌≤◌, ◌<◌, Bool, true, false, not, ◌||◌, List, [], ◌∷◌, length, get_or, eqb, Float, if◌then◌else◌}
use Rattle.std.specs.Float.Ieee.{lt, le}
use Rattle.std.specs.Float.Ieee.Scale.{finite}
use Rattle.loops.specs.Lists.{any_of}
use Rattle.loops.specs.Refusal.{first_of, taken}
use Rattle.floats.specs.Operators.{◌-₃₂◌, ◌*₃₂◌, f32, zero₃₂, sum₃₂}
use Rattle.definition.specs.Options.{within}
use Rattle.rounds.specs.declared.nearest_voice.Voice.{Voice}
use Rattle.rounds.specs.declared.nearest_voice.VoiceAnswer.{VoiceAnswer}

-- of vector v and enrolled vector i: the squared differences of their elements, added in order from +0.0, in f32
unfoldable pub distance : ℕ → List ℕ → List ℕ → ℕ → Float
distance n v e i = sum₃₂ zero₃₂ n (λ k. let d = f32 (get_or v k 0) -₃₂ f32 (get_or e (i * n + k) 0) in d *₃₂ d)

-- of the indices 0 .. n the lowest whose number is least
unfoldable pub least : (ℕ → Float) → ℕ → ℕ
least f zero = 0
least f (suc n) = let i = least f n in if lt (f (suc n)) (f i) then suc n else i

-- whether one of a list of bits is not finite
abbrev pub any_not_finite : List ℕ → Bool
any_not_finite = any_of (λ b. not (finite (f32 b)))

-- 27, 28 and 29, in checking order: the number of enrolled vectors, the lengths, the numbers and the limit
unfoldable pub voice_refusal : ℕ → List ℕ → ℕ → List ℕ → Float → ℕ
voice_refusal n v count e limit = first_of (
    (not (within 1 32 count), 27)
    ∷ (not (eqb (length v) n) || not (eqb (length e) (count * n)), 28)
    ∷ (any_not_finite v || any_not_finite e || not (finite limit) || lt limit zero₃₂, 29) ∷ [])

-- an answer: a voice, nobody (`Ok None`), or a refusal's number
abbrev pub NearestVoice : Type 0
NearestVoice = Result (Option Voice) ℕ

abbrev pub voice : ℕ → Float → NearestVoice
voice i d = Ok (Some (record { index = i; distance = d }))

abbrev pub nobody : NearestVoice
nobody = Ok None

-- the nearest where its distance is at most the limit, else nobody
unfoldable pub within_limit : (ℕ → Float) → ℕ → Float → NearestVoice
within_limit f i limit = if le (f i) limit then voice i (f i) else nobody

unfoldable pub nearest_voice : ℕ → List ℕ → ℕ → List ℕ → Float → NearestVoice
nearest_voice n v count e limit =
    let r = voice_refusal n v count e limit in
    taken r (within_limit (distance n v e) (least (distance n v e) (count - 1)) limit) (Err r)

-- the number and the values of each answer: index and distance are 0 beside nobody and beside a refusal
unfoldable pub voice_answer : NearestVoice → VoiceAnswer
voice_answer (Ok (Some w)) = record { refusal = 0; found = true; index = w.index; distance = w.distance }
voice_answer (Ok None) = record { refusal = 0; found = false; index = 0; distance = zero₃₂ }
voice_answer (Err r) = record { refusal = r; found = false; index = 0; distance = zero₃₂ }

-- i is the lowest of the indices 0 .. n whose number is least: every other is at least as large, and those of lower indices are larger
pub record Lowest (f : ℕ → Float) (n i : ℕ) : Type 0 where
  pub in_range : i ≤ n
  pub others : (j : ℕ) → j ≤ n → le (f i) (f j) ≡ true
  pub lower : (j : ℕ) → j < i → lt (f i) (f j) ≡ true

-- what an answer says. A voice: it is the lowest of least distance, which is finite and at most the limit. Nobody: no distance is at most the limit. A
-- refusal: its number is the one above, and not 0
abbrev pub Meant : ℕ → List ℕ → ℕ → List ℕ → Float → NearestVoice → Type 0
Meant n v count e limit (Ok (Some w)) =
    (voice_refusal n v count e limit ≡ 0) × Lowest (distance n v e) (count - 1) w.index × (w.distance ≡ distance n v e w.index) × (finite w.distance ≡ true)
    × (le w.distance limit ≡ true)
Meant n v count e limit (Ok None) = (voice_refusal n v count e limit ≡ 0) × ((j : ℕ) → j < count → le (distance n v e j) limit ≡ false)
Meant n v count e limit (Err r) = (r ≡ voice_refusal n v count e limit) × (r ≡ 0 → ⊥)
