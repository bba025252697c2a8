-- The totals over a list of calls and the answers to it; and what is refused.
use Rattle.std.specs.Prelude.{ℕ, max, length, replicate, eqb}
use mathlib.Core.List.{List, map, foldl}
use Rattle.loops.specs.Lists.{build, those}
use Rattle.loops.specs.Refusal.{taken}
use Rattle.definition.specs.declared.IvectorInfo.{IvectorInfo}
use Rattle.definition.specs.Model.{Tables, table_lengths_of}
use Rattle.definition.specs.Machine.{Call, push, finish, change, forget, set_window, fetch, Answer}
use Rattle.definition.specs.Stream.{new_refusal}
use Rattle.program.specs.Rooms.{Rooms, room_lengths_of}
use Rattle.lists.specs.Draws.{size_refusal}

-- push, finish, change, forget, fetch; a window call is never drawn
unfoldable pub kind_of : Call → ℕ
kind_of (push x) = 0
kind_of finish = 1
kind_of (change fs ws) = 2
kind_of (forget f) = 3
kind_of (fetch f m) = 4
kind_of (set_window w) = 5

-- how often k is in a list
unfoldable pub how_many : ℕ → List ℕ → ℕ
how_many k l = length (those (eqb k) l)

abbrev pub refusal_of : Answer → ℕ
refusal_of a = a.told.refusal

abbrev pub held_of : Answer → ℕ
held_of a = a.told.frames_held

-- where the refusal is not 0 nothing was played
pub record Totals : Type 0 where
  pub refusal : ℕ
  pub calls : List ℕ
  pub refusals : List ℕ
  pub greatest : ℕ

abbrev pub totals_from : ℕ → List ℕ → List ℕ → ℕ → Totals
totals_from r calls refusals greatest = record { refusal = r; calls = calls; refusals = refusals; greatest = greatest }

-- how many calls are of each of the five kinds, how many answers have each refusal number up to 33 (0 where a call was taken), and the greatest frames held
unfoldable pub totals : List Call → List Answer → Totals
totals cs rs = totals_from 0 (build 5 (λ k. how_many k (map kind_of cs))) (build 34 (λ r. how_many r (map refusal_of rs))) (foldl max 0 (map held_of rs))

abbrev pub no_totals : ℕ → Totals
no_totals r = totals_from r (replicate 5 0) (replicate 34 0) 0

-- 33, else the fresh stream's, with scratch of n numbers
unfoldable pub play_refusal : IvectorInfo → Tables → Rooms → ℕ → ℕ → ℕ → ℕ
play_refusal i t z n seed count =
    let r = size_refusal seed i.dims.base_dim count in
    taken r (new_refusal i (table_lengths_of t) (room_lengths_of z n)) r
