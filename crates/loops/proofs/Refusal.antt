-- Laws of refusals.
use mathlib.Core.Path.{◌≡◌, refl, sym, ap, ◌∙◌}
use mathlib.Core.Bool.{Bool, true, false, cond}
use mathlib.Core.List.{List, [], ◌∷◌, ◌++◌}
use Prim.Native.Nat.{ℕ, zero, suc}
use native.Mathlib.Omega.{arith}
use Rattle.loops.specs.Refusal.{first_of, taken}

-- no test holds: one fact for each, nested to the right
abbrev pub NoneFirst : List (Bool × ℕ) → Type 0
NoneFirst [] = Unit {0}
NoneFirst (t ∷ ts) = (t.0 ≡ false) × NoneFirst ts

abbrev NotZero : ℕ → Type 0 → Type 0
NotZero zero P = ⊥
NotZero (suc n) P = P

-- no test has the number 0: `tt` for a list that is written out
abbrev pub Numbered : List (Bool × ℕ) → Type 0
Numbered [] = Unit {0}
Numbered (t ∷ ts) = NotZero t.1 (Numbered ts)

-- test k is the first that holds: the facts nested to the right
abbrev pub FirstAt : ℕ → List (Bool × ℕ) → Type 0
FirstAt k [] = ⊥
FirstAt zero (t ∷ ts) = t.0 ≡ true
FirstAt (suc k) (t ∷ ts) = (t.0 ≡ false) × FirstAt k ts

-- the number of test k
abbrev pub number_at : ℕ → List (Bool × ℕ) → ℕ
number_at k [] = 0
number_at zero (t ∷ ts) = t.1
number_at (suc k) (t ∷ ts) = number_at k ts

pub first-here : (t : Bool × ℕ) (ts : List (Bool × ℕ)) → t.0 ≡ true → first_of (t ∷ ts) ≡ t.1
unfolding first_of
first-here t ts e = ap (λ (b : Bool). cond b t.1 (first_of ts)) e

pub first_past : (t : Bool × ℕ) (ts : List (Bool × ℕ)) → t.0 ≡ false → first_of (t ∷ ts) ≡ first_of ts
unfolding first_of
first_past t ts e = ap (λ (b : Bool). cond b t.1 (first_of ts)) e

-- the first test that holds tells the number
pub first_is : (k : ℕ) (ts : List (Bool × ℕ)) → FirstAt k ts → number_at k ts ≡ first_of ts
first_is k [] h = absurd h
first_is zero (t ∷ ts) h = sym (first-here t ts h)
first_is (suc k) (t ∷ ts) h = first_is k ts h.1 ∙ sym (first_past t ts h.0)

pub first-none : (ts : List (Bool × ℕ)) → NoneFirst ts → 0 ≡ first_of ts
unfolding first_of
first-none [] h = refl
first-none (t ∷ ts) h = first-none ts h.1 ∙ sym (first_past t ts h.0)

none-step : (b : Bool) (r rest : ℕ) (P : Type 0) → NotZero r P → cond b r rest ≡ 0 → (b ≡ false) × (rest ≡ 0) × P
none-step true zero rest P p e = absurd p
none-step true (suc r) rest P p e = absurd (omega arith)
none-step false zero rest P p e = absurd p
none-step false (suc r) rest P p e = (refl, e, p)

-- number 0: each test fails
pub none_first : (ts : List (Bool × ℕ)) → Numbered ts → first_of ts ≡ 0 → NoneFirst ts
unfolding first_of
none_first [] p e = tt
none_first (t ∷ ts) p e = let h = none-step t.0 t.1 (first_of ts) (Numbered ts) p e in (h.0, none_first ts h.2 h.1)

-- further tests after those of which none holds, and after those of which one holds
pub first_then : (ts us : List (Bool × ℕ)) → Numbered ts → first_of ts ≡ 0 → first_of (ts ++ us) ≡ first_of us
unfolding first_of
first_then [] us p e = refl
first_then (t ∷ ts) us p e =
    let h = none-step t.0 t.1 (first_of ts) (Numbered ts) p e in
    first_past t (ts ++ us) h.0 ∙ first_then ts us h.2 h.1

pub first_already : (ts us : List (Bool × ℕ)) → (first_of ts ≡ 0 → ⊥) → first_of (ts ++ us) ≡ first_of ts
unfolding first_of
first_already [] us h = absurd (h refl)
first_already ((true, r) ∷ ts) us h = refl
first_already ((false, r) ∷ ts) us h = first_already ts us h

-- ---- what a call leaves

module _ {A : Type 0} where
  pub taken_new : (r : ℕ) (new old : A) → r ≡ 0 → taken r new old ≡ new
  taken_new r new old e = rw e

  pub taken_old : (r : ℕ) (new old : A) → (r ≡ 0 → ⊥) → taken r new old ≡ old
  taken_old zero new old h = absurd (h refl)
  taken_old (suc r) new old h = refl

  pub taken_same : (r : ℕ) (a : A) → taken r a a ≡ a
  taken_same zero a = refl
  taken_same (suc r) a = refl
