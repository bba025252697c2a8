-- What is claimed of the totals. The counts leave no answer out, and they are those of the lists that `fill` writes.
use Rattle.std.specs.Prelude.{◌≡◌, ℕ, ◌+◌, ◌*◌, true, List, get_or, take, ltb}
use Rattle.loops.specs.Lists.{build, all_of}
use Rattle.definition.specs.declared.RingLengths.{RingLengths}
use Rattle.definition.specs.Model.{Model}
use Rattle.definition.specs.Machine.{Call, answers}
use Rattle.lists.specs.Listed.{part, of_kind}
use Rattle.lists.specs.Draws.{drawn_calls, DrawnLists, filled}
use Rattle.lists.specs.Totals.{how_many, refusal_of, totals}

-- whatever is called, every refusal number of the keeping machine is below 34
abbrev pub AllCounted : Type 0
AllCounted = (M : Model) (z : RingLengths) (cs : List Call) → all_of (λ a. ltb (refusal_of a) 34) (answers M z cs) ≡ true

-- ---- filled lists as calls

-- call i, decoded as in any list of calls: its kind, its frame and its weight stand at place i, the dim numbers of a push after those of the pushes before it,
-- and the output of a fetch has one number
unfoldable pub listed_at : ℕ → DrawnLists → ℕ → Call
listed_at dim l i =
    let a = how_many 0 (take i l.kinds) * dim in
    of_kind (get_or l.kinds i 0) (get_or l.named i 0) (part a (a + dim) l.frames) (part i (i + 1) l.named) (part i (i + 1) l.weights) 1

unfoldable pub listed_calls : ℕ → ℕ → DrawnLists → List Call
listed_calls dim count l = build count (listed_at dim l)

-- what `fill` leaves where it refuses nothing, whatever the lent lists held: the drawn calls; so the totals are those over the lists
pub record Decoded (seed dim count : ℕ) (l : DrawnLists) : Type 0 where
  pub calls_are : listed_calls dim count (filled dim seed count l) ≡ drawn_calls dim seed count
  pub totals_are : (M : Model) (z : RingLengths) → (
      let cs : List Call = listed_calls dim count (filled dim seed count l) in
      let ds : List Call = drawn_calls dim seed count in
      totals cs (answers M z cs) ≡ totals ds (answers M z ds))

abbrev pub ListsDecode : Type 0
ListsDecode = (seed dim count : ℕ) (l : DrawnLists) → Decoded seed dim count l
