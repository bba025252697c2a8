-- Request 8: from a fresh stream on no answer of the keeping machine is 18 (`never-18`). Its mark is never above its floor less left context (`Low`), so a
-- change that names no frame below the floor reaches no frame below the mark. Before it, laws of numbers that a list of tests does not give.
use mathlib.Core.Path.{◌≡◌, refl, sym, ◌∙◌}
use Prim.Native.Nat.{ℕ, zero, suc, ◌-◌, ◌≤◌, min, max}
use native.Mathlib.Omega.{arith}
use mathlib.Core.Bool.{Bool, true, false, true≢false}
use mathlib.Core.List.{List, [], ◌∷◌, map, foldl}
use lib.ListN.{get_or}
use lib.Dec.{eqb, leb, ltb}
use lib.Ieee.{Float}
use borrow.Author.Tests.{ne_eqb, ltb-false, le-ltb}
use Rattle.loops.specs.Lists.{any_of}
use Rattle.loops.specs.Refusal.{first_of, taken}
use Rattle.loops.proofs.Choose.{by-test, or_none}
use Rattle.loops.proofs.Tests.{none_at, at_none}
use Rattle.definition.specs.declared.RingLengths.{RingLengths}
use Rattle.definition.specs.Model.{Model}
use Rattle.definition.specs.Machine.{Never18, Call, push, finish, change, forget, set_window, fetch, Machine, Move, moved, forgotten, push_tests, change_tests, window_tests, fetch_tests, fresh, caught_up, does, told_by, answer, answers_from, answers}

-- ---- the number of a list of tests

-- no test has the number n
abbrev pub AllNot : ℕ → List (Bool × ℕ) → Type 0
AllNot n [] = Unit {0}
AllNot n (t ∷ ts) = (t.1 ≡ n → ⊥) × AllNot n ts

-- it is not n: neither by the first test, nor by the others where the first fails
pub first-either : (n : ℕ) (t : Bool × ℕ) (ts : List (Bool × ℕ)) → (t.0 ≡ true → t.1 ≡ n → ⊥) → (t.0 ≡ false → first_of ts ≡ n → ⊥) → first_of (t ∷ ts) ≡ n → ⊥
unfolding first_of
first-either n t ts here there e = by-test t.0 (λ q. here q (rw q at e)) (λ q. there q (rw q at e))

pub first-not : (n : ℕ) (ts : List (Bool × ℕ)) → (0 ≡ n → ⊥) → AllNot n ts → first_of ts ≡ n → ⊥
unfolding first_of
first-not n [] z h e = z e
first-not n (t ∷ ts) z h e = first-either n t ts (λ q. h.0) (λ q. first-not n ts z h.1) e

-- ---- the lowest of a number and a list

pub lowest_under : (a : ℕ) (fs : List ℕ) → foldl min a fs ≤ a
lowest_under a [] = omega arith
lowest_under a (f ∷ fs) = omega (arith, lowest_under (min a f) fs)

-- a forget of frame f keeps the mark low: the lowest frame that is still needed is not above f
pub low_raised : (mark floor left low f : ℕ) → mark ≤ floor - left → low ≤ f → max mark (low - left) ≤ max floor f - left
low_raised mark floor left low f h l = omega arith

-- of a mark not above the floor less left context: frames of which none is below the floor reach none below the mark
pub reach-none : (left mark floor : ℕ) (fs : List ℕ) → mark ≤ floor - left → any_of (λ f. ltb f floor) fs ≡ false → any_of (λ f. ltb (f - left) mark) fs ≡ false
reach-none left mark floor fs h e =
    at_none (λ f. ltb (f - left) mark) 0 fs
    (λ j l. le-ltb (get_or fs j 0 - left) mark (omega (arith, h, ltb-false (get_or fs j 0) floor (none_at (λ f. ltb f floor) 0 fs j e l))))

-- ---- the machine

module _ (M : Model) (z : RingLengths) where
  abbrev left : ℕ
  left = M.info.opts.left_context

  abbrev Low : Machine → Type 0
  Low k = k.mark ≤ k.floor - left

  change_not : (k : Machine) (n : ℕ) (fs : List ℕ) (ws : List Float) → Low k → first_of (change_tests M.info.opts z k.mark k.floor n fs ws) ≡ 18 → ⊥
  unfolding change_tests
  change_not k n fs ws h =
      first-either 18 _ _ (λ q. omega arith)
      (λ even. first-either 18 _ _ (λ q. omega arith)
      (λ near. first-either 18 _ _ (λ q. omega arith)
      (λ high. first-either 18 _ _ (λ q e. true≢false (sym q ∙ reach-none left k.mark k.floor fs h high))
      (λ back. first-not 18 _ (omega arith) (omega arith, tt)))))

  not_18 : (k : Machine) (c : Call) → Low k → (does M z k c).refusal ≡ 18 → ⊥
  unfolding does push_tests window_tests fetch_tests
  not_18 k (push x) h e = first-not 18 _ (omega arith) (omega arith, (omega arith, (omega arith, (omega arith, (omega arith, tt))))) e
  not_18 k finish h e = first-not 18 [] (omega arith) tt e
  not_18 k (change fs ws) h e = change_not k _ fs ws h e
  not_18 k (forget f) h e = first-not 18 [] (omega arith) tt e
  not_18 k (set_window w) h e = first-not 18 _ (omega arith) (omega arith, (omega arith, tt)) e
  not_18 k (fetch f n) h e = first-not 18 _ (omega arith) (omega arith, (omega arith, (omega arith, tt))) e

  low_left : (k : Machine) (c : Call) → Low k → Low (does M z k c).left
  unfolding does forgotten caught_up
  low_left k (push x) h = h
  low_left k finish h = h
  low_left k (change fs ws) h = h
  low_left k (forget f) h = low_raised k.mark k.floor left _ f h (omega (arith, lowest_under (min f k.next) (map (λ c. c.0) k.changes.waiting)))
  low_left k (set_window w) h = h
  low_left k (fetch f n) h = by-test (leb k.next f) (λ e. rw e h) (λ e. rw e h)

  low_moved : (r : ℕ) (k l : Machine) → Low k → Low l → Low (taken r l k)
  low_moved zero k l h g = g
  low_moved (suc r) k l h g = h

  never_from : (k : Machine) → Low k → (cs : List Call) → any_of (λ a. eqb a.told.refusal 18) (answers_from M z k cs) ≡ false
  unfolding answers_from any_of answer told_by
  never_from k h [] = refl
  never_from k h (c ∷ cs) =
      let y : Move = does M z k c in
      or_none (eqb y.refusal 18) _ (ne_eqb y.refusal 18 (not_18 k c h)) (never_from (moved k y) (low_moved y.refusal k y.left h (low_left k c h)) cs)

pub never-18 : Never18
unfolding answers fresh
never-18 M z cs = never_from M z (fresh M) (omega arith) cs
