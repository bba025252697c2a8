-- Every refusal number of the keeping machine is below 34: so the counts by number leave none out.
use mathlib.Core.Path.{◌≡◌, refl}
use mathlib.Core.Bool.{Bool, true, false}
use mathlib.Core.List.{List, [], ◌∷◌}
use Prim.Native.Nat.{ℕ}
use lib.Dec.{ltb}
use Rattle.loops.specs.Lists.{all_of}
use Rattle.loops.specs.Refusal.{first_of}
use Rattle.loops.proofs.Choose.{and_both, and_holds}
use Rattle.definition.specs.declared.RingLengths.{RingLengths}
use Rattle.definition.specs.Model.{Model}
use Rattle.definition.specs.Machine.{Call, push, finish, change, forget, set_window, fetch, Machine, moved, does, answer, told_by, answers_from, fresh, answers, push_tests, change_tests, window_tests, fetch_tests}
use Rattle.lists.specs.Totals.{refusal_of}
use Rattle.lists.specs.Theorems.{AllCounted}

first_below : (ts : List (Bool × ℕ)) → all_of (λ t. ltb t.1 34) ts ≡ true → ltb (first_of ts) 34 ≡ true
unfolding first_of all_of
first_below [] e = refl
first_below ((true, r) ∷ ts) e = (and_holds (ltb r 34) (all_of (λ t. ltb t.1 34) ts) e).0
first_below ((false, r) ∷ ts) e = first_below ts (and_holds (ltb r 34) (all_of (λ t. ltb t.1 34) ts) e).1

module _ (M : Model) (z : RingLengths) where
  move_below : (k : Machine) (c : Call) → ltb (does M z k c).refusal 34 ≡ true
  unfolding does push_tests change_tests window_tests fetch_tests all_of
  move_below k (push x) = first_below _ refl
  move_below k finish = first_below [] refl
  move_below k (change fs ws) = first_below _ refl
  move_below k (forget f) = first_below [] refl
  move_below k (set_window w) = first_below _ refl
  move_below k (fetch f n) = first_below _ refl

  from_below : (k : Machine) (cs : List Call) → all_of (λ a. ltb (refusal_of a) 34) (answers_from M z k cs) ≡ true
  unfolding answers_from answer told_by all_of
  from_below k [] = refl
  from_below k (c ∷ cs) = and_both _ _ (move_below k c) (from_below (moved k (does M z k c)) cs)

pub all_counted : AllCounted
unfolding answers
all_counted M z cs = from_below M z (fresh M) cs
