-- Laws of a choice and of two tests together, and proofs by a test.
use Rattle.std.specs.Prelude.{if◌then◌else◌}
use mathlib.Core.Path.{◌≡◌, refl}
use mathlib.Core.Bool.{Bool, true, false, ◌||◌, ◌&&◌, true≢false, false≢true}

-- a proof by the two outcomes of a test
pub by-test : {C : Type 0} (t : Bool) → (t ≡ true → C) → (t ≡ false → C) → C
by-test true f g = f refl
by-test false f g = g refl

pub choose_true : {A : Type 0} {t : Bool} {a x : A} (y : A) → t ≡ true → a ≡ x → a ≡ (if t then x else y)
choose_true y e h = rw e h

pub choose_false : {A : Type 0} {t : Bool} {a y : A} (x : A) → t ≡ false → a ≡ y → a ≡ (if t then x else y)
choose_false x e h = rw e h

pub choose_same : {A : Type 0} (t : Bool) (a : A) → (if t then a else a) ≡ a
choose_same true a = refl
choose_same false a = refl

-- a choice seen through h
pub choose_map : {A B : Type 0} (h : A → B) (t : Bool) (a b : A) → h (if t then a else b) ≡ (if t then h a else h b)
choose_map h true a b = refl
choose_map h false a b = refl

-- ---- two tests

module _ (a b : Bool) where
  pub or_first : a ≡ true → (a || b) ≡ true
  or_first e = rw e

  pub or_second : b ≡ true → (a || b) ≡ true
  or_second e = by-test a or_first (λ h. rw h e)

  pub or_none : a ≡ false → b ≡ false → (a || b) ≡ false
  or_none e h = rw e h

  pub or_fails : (a || b) ≡ false → (a ≡ false) × (b ≡ false)
  or_fails e = by-test a (λ h. absurd (true≢false (rw h at e))) (λ h. (h, rw h at e))

  pub and_first : a ≡ false → (a && b) ≡ false
  and_first e = rw e

  pub and_second : b ≡ false → (a && b) ≡ false
  and_second e = by-test a (λ h. rw h e) and_first

  pub and_both : a ≡ true → b ≡ true → (a && b) ≡ true
  and_both e h = rw e h

  pub and_holds : (a && b) ≡ true → (a ≡ true) × (b ≡ true)
  and_holds e = by-test a (λ h. (h, rw h at e)) (λ h. absurd (false≢true (rw h at e)))
