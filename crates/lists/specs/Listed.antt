-- A list of calls given as slices, and where its answers are written.
use Rattle.std.specs.Prelude.{ℕ, ◌+◌, ◌-◌, ◌*◌, ◌/◌, min, Bool, List, [], ◌∷◌, length, get_or, take, drop, eqb, ltb, Float, if◌then◌else◌}
use Rattle.loops.specs.Lists.{build}
use Rattle.loops.specs.Refusal.{first_of, taken}
use Rattle.loops.specs.Ring.{put}
use Rattle.definition.specs.declared.IvectorInfo.{IvectorInfo}
use Rattle.definition.specs.declared.StreamAnswer.{StreamAnswer}
use Rattle.definition.specs.Model.{Tables, table_lengths_of}
use Rattle.definition.specs.Machine.{Call, push, finish, change, forget, set_window, fetch, Answer}
use Rattle.definition.specs.Stream.{new_refusal}
use Rattle.program.specs.Rooms.{Rooms, room_lengths_of}

-- ---- the list

-- what stands from index a to index b: nothing where a is past the end, cut where b is
unfoldable pub part : {A : Type 0} → ℕ → ℕ → List A → List A
part a b l = take (b - a) (drop a l)

-- by its kind: x is what a push is lent, fs and ws are a change's frames and weights, f is the frame of a forget and of a fetch and a new window, m the
-- length of a fetch's output
unfoldable pub of_kind : ℕ → ℕ → List Float → List ℕ → List Float → ℕ → Call
of_kind kind f x fs ws m =
    if eqb kind 0 then push x else (if eqb kind 1 then finish else (if eqb kind 2 then change fs ws else (if eqb kind 3 then forget f else (if eqb kind 5 then set_window f else fetch f m))))

-- call i has kind i and four numbers a b c d: a push is lent samples a to b; a change has frames a to b of `lists`, and samples c to d for weights; a
-- forget has frame a, a window call window a; a fetch has frame a, and its output is from b to c in outputs of n numbers, cut at their end
unfoldable pub call_at : List ℕ → List ℕ → List ℕ → List Float → ℕ → ℕ → Call
call_at kinds numbers lists samples n i =
    let a = get_or numbers (i * 4) 0 in
    let b = get_or numbers (i * 4 + 1) 0 in
    let c = get_or numbers (i * 4 + 2) 0 in
    let d = get_or numbers (i * 4 + 3) 0 in
    of_kind (get_or kinds i 0) a (part a b samples) (part a b lists) (part c d samples) (min (c - b) (n - b))

unfoldable pub calls : List ℕ → List ℕ → List ℕ → List Float → ℕ → List Call
calls kinds numbers lists samples n = build (length kinds) (call_at kinds numbers lists samples n)

-- ---- the answers

-- the rooms for the answers: five numbers of each call, and the outputs
pub record Written : Type 0 where
  pub answers : List ℕ
  pub outs : List ℕ

abbrev pub written : List ℕ → List ℕ → Written
written a o = record { answers = a; outs = o }

abbrev pub numbers_of : StreamAnswer → List ℕ
numbers_of a = a.refusal ∷ a.frames_held ∷ a.rows_held ∷ a.not_finite ∷ a.nan_likelihoods ∷ []

-- answer i, its vector where the output of call i begins
unfoldable pub write : List ℕ → ℕ → Answer → Written → Written
write numbers i a o =
    written (put (i * 5) (numbers_of a.told) o.answers) (put (min (get_or numbers (i * 4 + 1) 0) (length o.outs)) a.vector o.outs)

-- answers i, i + 1, ..
unfoldable pub writes : List ℕ → ℕ → List Answer → Written → Written
writes numbers i [] o = o
writes numbers i (a ∷ rest) o = writes numbers (i + 1) rest (write numbers i a o)

-- ---- refusals

-- 99: the numbers of n calls, or the room for their answers, are too short. It is no number of the scope: the list itself is malformed
abbrev pub list_tests : ℕ → ℕ → ℕ → List (Bool × ℕ)
list_tests n numbers answers = (ltb (numbers / 4) n, 99) ∷ (ltb (answers / 5) n, 99) ∷ []

unfoldable pub list_refusal : ℕ → ℕ → ℕ → ℕ
list_refusal n numbers answers = first_of (list_tests n numbers answers)

-- the list's, else the fresh stream's
unfoldable pub run_refusal : IvectorInfo → Tables → Rooms → ℕ → ℕ → ℕ → ℕ → ℕ
run_refusal i t z scratch n numbers answers =
    let r = list_refusal n numbers answers in
    taken r (new_refusal i (table_lengths_of t) (room_lengths_of z scratch)) r
