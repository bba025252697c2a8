-- Every list of calls has slices that give it.
use Rattle.std.specs.Prelude.{◌≡◌, ℕ, ◌*◌, true, List, length, ltb, Float}
use Rattle.loops.specs.Lists.{all_of}
use Rattle.definition.specs.Machine.{Call}
use Rattle.lists.specs.Listed.{calls}

-- with four numbers a call, so that 99 is only for a room for the answers that is too short
pub record Coding (cs : List Call) : Type 0 where
  pub kinds : List ℕ
  pub numbers : List ℕ
  pub lists : List ℕ
  pub samples : List Float
  pub n : ℕ
  pub decoded : calls kinds numbers lists samples n ≡ cs
  pub sized : length numbers ≡ 4 * length kinds
  pub kinds_small : all_of (λ k. ltb k 6) kinds ≡ true

abbrev pub EveryList : Type 0
EveryList = (cs : List Call) → Coding cs
