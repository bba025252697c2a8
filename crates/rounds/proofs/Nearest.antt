-- The nearest voice: `least` is the lowest index of least number (`least_lowest`, by induction over the indices); so of vectors that are not refused every other
-- is at least as far as the one that is answered, and one of a lower index farther (`nearest_is`). What each answer says is `answer_meant`: where the nearest
-- is not within the limit nobody is, and an infinite distance never is.
use Rattle.std.specs.Prelude.{Err}
use mathlib.Core.Path.{◌≡◌, refl, sym, ◌∙◌, subst}
use mathlib.Core.Logic.{inl, inr}
use mathlib.Core.Bool.{Bool, true, false, cond, false≢true}
use mathlib.Core.List.{List}
use Prim.Native.Nat.{ℕ, zero, suc, ◌-◌, ◌≤◌, ◌<◌}
use native.Mathlib.Nat.{le_of_eq, eq-or-lt_of_le}
use native.Mathlib.Omega.{arith}
use lib.ListN.{length}
use lib.Ieee.{Float, lt, le}
use Rattle.loops.proofs.Choose.{by-test}
use Rattle.loops.specs.Refusal.{taken}
use Rattle.rounds.specs.Voice.{distance, least, voice_refusal, voice, nobody, within_limit, nearest_voice, Lowest, Meant}
use Rattle.rounds.proofs.VoiceRefusals.{accepted}
use Rattle.rounds.proofs.Least.{row_in_lem, least_first, new_step, same_step}
use Rattle.rounds.proofs.Order.{signless, distance_signless, not-lt, lt-le, lt_then_le, le_self, le-le, near_finite}

module _ (f : ℕ → Float) where
  -- one index more
  module _ (n i : ℕ) (s : (j : ℕ) → j ≤ suc n → signless (f j) ≡ true) (h : Lowest f n i) where
    i_signless : signless (f i) ≡ true
    i_signless = s i (omega (arith, h.in_range))

    last_signless : signless (f (suc n)) ≡ true
    last_signless = s (suc n) (omega arith)

    lowest_new : lt (f (suc n)) (f i) ≡ true → Lowest f (suc n) (suc n)
    lowest_new t =
        record {
          in_range = omega arith;
          others = λ j l. elim (eq-or-lt_of_le l) [
            | inl e ↦ subst (λ (k : ℕ). le (f (suc n)) (f k) ≡ true) (sym e) (le_self (f (suc n)) last_signless)
            | inr u ↦ lt_then_le (f (suc n)) (f j) (smaller j (omega arith))
          ];
          lower = λ j l. smaller j (omega arith);
        }
      where
        smaller : (j : ℕ) → j ≤ n → lt (f (suc n)) (f j) ≡ true
        smaller j l = lt-le (f (suc n)) (f i) (f j) last_signless i_signless (s j (omega arith)) t (h.others j l)

    lowest_same : lt (f (suc n)) (f i) ≡ false → Lowest f (suc n) i
    lowest_same t =
        record {
          in_range = omega (arith, h.in_range);
          others = λ j l. elim (eq-or-lt_of_le l) [
            | inl e ↦ subst (λ (k : ℕ). le (f i) (f k) ≡ true) (sym e) (not-lt (f (suc n)) (f i) last_signless i_signless t)
            | inr u ↦ h.others j (omega arith)
          ];
          lower = h.lower;
        }

  pub least_lowest : (n : ℕ) → ((j : ℕ) → j ≤ n → signless (f j) ≡ true) → Lowest f n (least f n)
  least_lowest zero s =
      subst (Lowest f 0) (least_first f)
      (record {
        in_range = omega arith;
        others = λ j l. subst (λ (k : ℕ). le (f 0) (f k) ≡ true) (omega arith) (le_self (f 0) (s 0 (omega arith)));
        lower = λ j l. absurd (omega arith);
      })
  least_lowest (suc n) s =
      let h = least_lowest n (λ j l. s j (omega arith)) in
      by-test (lt (f (suc n)) (f (least f n)))
      (λ t. subst (Lowest f (suc n)) (sym (new_step f n t)) (lowest_new n (least f n) s h t))
      (λ t. subst (Lowest f (suc n)) (sym (same_step f n t)) (lowest_same n (least f n) s h t))

module _ (n : ℕ) (v : List ℕ) (count : ℕ) (e : List ℕ) (limit : Float) where
  module _ (z : voice_refusal n v count e limit ≡ 0) where
    some : 1 ≤ count
    some = (accepted n v count e limit refl z).some

    each_signless : (j : ℕ) → j ≤ count - 1 → signless (distance n v e j) ≡ true
    each_signless j l =
        let h = accepted n v count e limit refl z in
        distance_signless n v e h.vector_finite h.rows_finite j
        (le_of_eq (sym h.vector_long)) (row_in_lem j count n (length e) (omega (arith, h.some)) h.rows_long)

    -- the minimum property of the definition
    pub nearest_is : Lowest (distance n v e) (count - 1) (least (distance n v e) (count - 1))
    nearest_is = least_lowest (distance n v e) (count - 1) each_signless

    module _ (i : ℕ) (i-is : Lowest (distance n v e) (count - 1) i) where
      nearest_signless : signless (distance n v e i) ≡ true
      nearest_signless = each_signless i i-is.in_range

      -- where one is within the limit, the nearest is
      so_nearest : (j : ℕ) → j < count → le (distance n v e j) limit ≡ true → le (distance n v e i) limit ≡ true
      so_nearest j l t =
          let k : j ≤ count - 1 = omega arith in
          le-le (distance n v e i) (distance n v e j) limit nearest_signless (each_signless j k) (i-is.others j k) t

      within_meant : Meant n v count e limit (within_limit (distance n v e) i limit)
      unfolding within_limit
      within_meant = by-test (le (distance n v e i) limit)
          (λ t. subst (λ (b : Bool). Meant n v count e limit (cond b (voice i (distance n v e i)) nobody)) (sym t)
          (z, i-is, refl, near_finite (distance n v e i) limit nearest_signless (accepted n v count e limit refl z).limit_finite t, t))
          (λ t. subst (λ (b : Bool). Meant n v count e limit (cond b (voice i (distance n v e i)) nobody)) (sym t)
          (z, λ j l. by-test (le (distance n v e j) limit) (λ u. absurd (false≢true (sym t ∙ so_nearest j l u))) (λ u. u)))

  judged : (r : ℕ) → r ≡ voice_refusal n v count e limit
      → Meant n v count e limit (taken r (within_limit (distance n v e) (least (distance n v e) (count - 1)) limit) (Err r))
  judged zero h = within_meant (sym h) (least (distance n v e) (count - 1)) (nearest_is (sym h))
  judged (suc r) h = (h, λ x. absurd (omega (arith, x)))

  -- the theorem: what each answer says
  pub answer_meant : Meant n v count e limit (nearest_voice n v count e limit)
  unfolding nearest_voice
  answer_meant = judged (voice_refusal n v count e limit) refl
