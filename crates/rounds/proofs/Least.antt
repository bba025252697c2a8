-- The lowest index whose number is least, turn by turn as code finds it; and what `nearest_voice` answers of it.
use Rattle.std.specs.Prelude.{Err}
use mathlib.Core.Path.{◌≡◌, refl, sym, ap, ◌∙◌}
use mathlib.Core.Bool.{Bool, true, false, cond}
use mathlib.Core.List.{List}
use Prim.Native.Nat.{ℕ, suc, ◌+◌, ◌-◌, ◌*◌, ◌≤◌, ◌<◌}
use native.Mathlib.Nat.{le_trans, le_of_eq, suc-mul, mul-le-mul_right}
use lib.Ieee.{Float, lt, le}
use Rattle.loops.proofs.Refusal.{taken_new, taken_old}
use Rattle.definition.specs.declared.refusal.Refusal.{Refusal}
use Rattle.definition.specs.Number.{number_of}
use Rattle.rounds.proofs.VoiceRefusals.{some_number}
use Rattle.rounds.specs.Voice.{distance, least, voice_refusal, voice, nobody, within_limit, nearest_voice}

-- row i of c rows lies within them
pub row_in_lem : (i c n m : ℕ) → i < c → m ≡ c * n → i * n + n ≤ m
row_in_lem i c n m l e = le_trans (le_of_eq (sym (suc-mul i n))) (le_trans (mul-le-mul_right n l) (le_of_eq (sym e)))

module _ (f : ℕ → Float) where
  pub least_first : 0 ≡ least f 0
  unfolding least
  least_first = refl

  pub new_step : (p : ℕ) → lt (f (suc p)) (f (least f p)) ≡ true → least f (suc p) ≡ suc p
  unfolding least
  new_step p u = ap (λ (b : Bool). cond b (suc p) (least f p)) u

  pub same_step : (p : ℕ) → lt (f (suc p)) (f (least f p)) ≡ false → least f (suc p) ≡ least f p
  unfolding least
  same_step p u = ap (λ (b : Bool). cond b (suc p) (least f p)) u

  -- j is the least of those up to p, and x its number; index i is the next
  module _ (p i q : ℕ) {j : ℕ} {x : Float} (i-is : i ≡ suc p) (q-is : q ≡ suc p) (j-is : j ≡ least f p) (x-is : x ≡ f j) where
    compared : {b : Bool} → lt (f i) x ≡ b → lt (f (suc p)) (f (least f p)) ≡ b
    compared t = ap (λ (k : ℕ). lt (f k) (f (least f p))) (sym i-is) ∙ ap (lt (f i)) (ap f (sym j-is) ∙ sym x-is) ∙ t

    pub least_new : lt (f i) x ≡ true → i ≡ least f q
    least_new t = i-is ∙ sym (new_step p (compared t)) ∙ ap (least f) (sym q-is)

    pub least_same : lt (f i) x ≡ false → j ≡ least f q
    least_same t = j-is ∙ sym (same_step p (compared t)) ∙ ap (least f) (sym q-is)

-- within the limit, and beyond it
module _ (f : ℕ → Float) (i : ℕ) (limit : Float) where
  near : le (f i) limit ≡ true → voice i (f i) ≡ within_limit f i limit
  unfolding within_limit
  near t = sym (ap (λ (b : Bool). cond b (voice i (f i)) nobody) t)

  far : le (f i) limit ≡ false → nobody ≡ within_limit f i limit
  unfolding within_limit
  far t = sym (ap (λ (b : Bool). cond b (voice i (f i)) nobody) t)

-- the answer of vectors that are not refused
module _ (n : ℕ) (v : List ℕ) (count : ℕ) (e : List ℕ) (limit : Float) (z : 0 ≡ voice_refusal n v count e limit)
    (i : ℕ) (d : Float) (i-is : i ≡ least (distance n v e) (count - 1)) (d-is : d ≡ distance n v e i) where
  answer_is : within_limit (distance n v e) i limit ≡ nearest_voice n v count e limit
  unfolding nearest_voice
  answer_is = ap (λ (j : ℕ). within_limit (distance n v e) j limit) i-is ∙ sym (taken_new _ _ _ (sym z))

  compared_with : {b : Bool} → le d limit ≡ b → le (distance n v e i) limit ≡ b
  compared_with t = ap (λ (y : Float). le y limit) (sym d-is) ∙ t

  pub answer_voice : le d limit ≡ true → voice i d ≡ nearest_voice n v count e limit
  answer_voice t = ap (voice i) d-is ∙ near (distance n v e) i limit (compared_with t) ∙ answer_is

  pub answer_nobody : le d limit ≡ false → nobody ≡ nearest_voice n v count e limit
  answer_nobody t = far (distance n v e) i limit (compared_with t) ∙ answer_is

-- of those that are
pub answer_refused :
    (n : ℕ) (v : List ℕ) (count : ℕ) (e : List ℕ) (limit : Float) (r : Refusal) → number_of r ≡ voice_refusal n v count e limit
    → Err (number_of r) ≡ nearest_voice n v count e limit
unfolding nearest_voice
answer_refused n v count e limit r h = ap Err h ∙ sym (taken_old _ _ _ (λ z. some_number r (h ∙ z)))
