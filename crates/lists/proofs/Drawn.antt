-- The call that is drawn: what `draw_call` codes is the drawing's call, by its kind.
use mathlib.Core.Path.{◌≡◌, refl, ap, ap₂, ◌∙◌}
use mathlib.Core.List.{List, [], ◌∷◌}
use Prim.Native.Nat.{ℕ, ◌%◌, ◌<◌, ◌≤◌}
use native.Mathlib.Nat.{mod-lt, sub-zero}
use native.Mathlib.Omega.{arith}
use lib.ListN.{length, take, set}
use lib.Ieee.{Float}
use Rattle.loops.specs.Ring.{put}
use Rattle.loops.proofs.Fill.{put_front, take_over}
use Rattle.definition.specs.Machine.{push, finish, change, forget, fetch}
use Rattle.lists.specs.Listed.{part, of_kind}
use Rattle.lists.specs.Turns.{decoded}
use Rattle.lists.specs.declared.run_calls.CodedCall.{CodedCall}
use Rattle.lists.specs.Draws.{draw, numbers_of, frame_of, weight_of, call_of, Drawing, call_in}
use Rattle.lists.proofs.Steps.{wide-0}

abbrev pub coded : ℕ → ℕ → ℕ → ℕ → ℕ → CodedCall
coded k a b c d = record { kind = k; a = a; b = b; c = c; d = d }

-- ---- a call by its kind

module _ (k : ℕ) (x : List Float) (f : ℕ) (w : Float) where
  a_push : k ≡ 0 → push x ≡ call_of k x f w
  unfolding call_of
  a_push e = rw e

  a_finish : k ≡ 1 → finish ≡ call_of k x f w
  unfolding call_of
  a_finish e = rw e

  a_change : k ≡ 2 → change (f ∷ []) (w ∷ []) ≡ call_of k x f w
  unfolding call_of
  a_change e = rw e

  a_forget : k ≡ 3 → forget f ≡ call_of k x f w
  unfolding call_of
  a_forget e = rw e

  a_fetch : k ≡ 4 → fetch f 1 ≡ call_of k x f w
  unfolding call_of
  a_fetch e = rw e

-- ---- parts of the lists

front_is : (dim : ℕ) (xs room : List Float) → length xs ≡ dim → part 0 dim (put 0 xs room) ≡ xs
unfolding part
front_is dim xs room e = ap₂ (λ (n : ℕ) (l : List Float). take n l) (sub-zero dim) (put_front xs room) ∙ take_over xs room dim e

one-part : {A : Type 0} (l : List A) (v : A) → 0 < length l → part 0 1 (set l 0 v) ≡ v ∷ []
unfolding part
one-part [] v h = absurd (omega arith)
one-part (x ∷ l) v h = refl

-- ---- what is coded

module _ (dim : ℕ) (d : Drawing) (s : ℕ) (s-is : s ≡ draw d.state) (lists : List ℕ) (samples : List Float) where
  abbrev k : ℕ
  k = s % 5

  of_drawing : call_of k (numbers_of dim k s) (frame_of k s d.pushes) (weight_of k s) ≡ call_in dim d
  of_drawing = ap (λ (s : ℕ). call_of (s % 5) (numbers_of dim (s % 5) s) (frame_of (s % 5) s d.pushes) (weight_of (s % 5) s)) s-is

  pub push_coded : {samples' : List Float} → k ≡ 0 → samples' ≡ put 0 (numbers_of dim k s) samples → decoded (coded k 0 dim 0 0) lists samples' 1 ≡ call_in dim d
  unfolding decoded of_kind
  push_coded {samples'} e g =
      ap (λ (k : ℕ). decoded (coded k 0 dim 0 0) lists samples' 1) e
      ∙ ap push (ap (part 0 dim) g ∙ front_is dim (numbers_of dim k s) samples (wide-0 dim k s e)) ∙ a_push k _ (frame_of k s d.pushes) (weight_of k s) e ∙ of_drawing

  pub finish_coded : k ≡ 1 → decoded (coded k 0 0 0 0) lists samples 1 ≡ call_in dim d
  unfolding decoded of_kind
  finish_coded e = ap (λ (k : ℕ). decoded (coded k 0 0 0 0) lists samples 1) e ∙ a_finish k (numbers_of dim k s) (frame_of k s d.pushes) (weight_of k s) e ∙ of_drawing

  pub change_coded : {f : ℕ} {w : Float} → k ≡ 2 → 0 < length lists → 0 < length samples → f ≡ frame_of k s d.pushes → w ≡ weight_of k s
      → decoded (coded k 0 1 0 1) (set lists 0 f) (set samples 0 w) 1 ≡ call_in dim d
  unfolding decoded of_kind
  change_coded {f} {w} e a b g h =
      ap (λ (k : ℕ). decoded (coded k 0 1 0 1) (set lists 0 f) (set samples 0 w) 1) e
      ∙ ap₂ change (one-part lists f a ∙ ap (λ (x : ℕ). x ∷ []) g) (one-part samples w b ∙ ap (λ (x : Float). x ∷ []) h)
      ∙ a_change k (numbers_of dim k s) (frame_of k s d.pushes) (weight_of k s) e ∙ of_drawing

  pub forget_coded : {f : ℕ} → k ≡ 3 → f ≡ frame_of k s d.pushes → decoded (coded k f 0 0 0) lists samples 1 ≡ call_in dim d
  unfolding decoded of_kind
  forget_coded {f} e g = ap (λ (k : ℕ). decoded (coded k f 0 0 0) lists samples 1) e ∙ ap forget g ∙ a_forget k (numbers_of dim k s) (frame_of k s d.pushes) (weight_of k s) e ∙ of_drawing

  pub fetch_coded : {f : ℕ} → k ≡ 4 → f ≡ frame_of k s d.pushes → decoded (coded k f 0 1 0) lists samples 1 ≡ call_in dim d
  unfolding decoded of_kind
  fetch_coded {f} e g =
      ap (λ (k : ℕ). decoded (coded k f 0 1 0) lists samples 1) e ∙ ap (λ (f : ℕ). fetch f 1) g ∙ a_fetch k (numbers_of dim k s) (frame_of k s d.pushes) (weight_of k s) e ∙ of_drawing

  -- a kind is below 5
  pub no_window : k ≡ 5 → ⊥
  no_window e = omega (arith, e, mod-lt s {m = 5} (omega arith))

  pub at_fetch : 4 ≤ k → k ≡ 4
  at_fetch h = omega (arith, h, mod-lt s {m = 5} (omega arith))
