-- Parsers one after the other, as code meets them.
use Rattle.std.proofs.Common.{◌≡◌, ℕ, Bool, true, false, List, sym, ap, ◌∙◌, subst}
use Rattle.definition.specs.Reader.{Got, Parser, after, need, refused, read}
use Rattle.kaldi.specs.Inner.KaldiIoAnswers.{place_of}

module _ {A B : Type 0} {x : Got B} (k : A → Parser B) (s : List ℕ) where
  -- past what is known of the definition
  pub goes : {g : Got A} {a : A} {p : ℕ} → g ≡ read a p → x ≡ k a s p → x ≡ after g k s
  goes e t = t ∙ sym (ap (λ (y : Got A). after y k s) e)

  pub stops : {g : Got A} {n : ℕ} → g ≡ refused n → x ≡ refused n → x ≡ after g k s
  stops e t = t ∙ sym (ap (λ (y : Got A). after y k s) e)

-- a test
pub met : {t : Bool} (n : ℕ) (s : List ℕ) (p : ℕ) → t ≡ true → read tt p ≡ need t n s p
met n s p e = rw e

pub unmet : {t : Bool} (n : ℕ) (s : List ℕ) (p : ℕ) → t ≡ false → refused n ≡ need t n s p
unmet n s p e = rw e

-- ---- nothing that is refused was read

abbrev is_read : {A : Type 0} → Got A → Type 0
is_read (refused n) = ⊥
is_read (read a next) = Unit {0}

pub not-read : {A : Type 0} {n : ℕ} {a : A} {z : ℕ} → refused n ≡ read a z → ⊥
not-read e = subst is_read (sym e) tt

abbrev value_of : {A : Type 0} → A → Got A → A
value_of d (refused n) = d
value_of d (read a next) = a

pub same-value : {A : Type 0} {a b : A} {p q : ℕ} → read a p ≡ read b q → a ≡ b
same-value {a = a} e = ap (value_of a) e

pub same_place : {A : Type 0} {a b : A} {p q : ℕ} → read a p ≡ read b q → p ≡ q
same_place e = ap place_of e

pub same_refusal : {A : Type 0} {m n : ℕ} → ◌≡◌ {A = Got A} (refused m) (refused n) → m ≡ n
same_refusal e = ap place_of e
