-- silence_weighting: the three slices of a table, and what a call answers, in the words of the definition.
use Rattle.std.specs.Prelude.{◌≡◌, ◌≤◌, ℕ, length, Result, Ok, Err}
use Rattle.definition.specs.declared.SilenceWeighting.{SilenceWeighting}
use Rattle.definition.specs.declared.SilenceAnswer.{SilenceAnswer}
use Rattle.definition.specs.declared.refusal.Refusal.{Refusal}
use Rattle.definition.specs.Number.{refused_by}
use Rattle.definition.specs.Silence.{TableRooms, table_rooms}
use Rattle.rounds.specs.declared.silence_weighting.rooms.SilenceRooms.{SilenceRooms}

abbrev pub rooms_in : SilenceRooms → TableRooms
rooms_in z = table_rooms z.known.now z.is_silence.now z.current_weight.now

-- the rooms are still those that were lent
abbrev pub SameLoans : SilenceRooms → SilenceRooms → Type 0
SameLoans old new =
    (new.known.ghost_name ≡ old.known.ghost_name) × (new.is_silence.ghost_name ≡ old.is_silence.ghost_name)
    × (new.current_weight.ghost_name ≡ old.current_weight.ghost_name)

-- the rooms have places for n frames
pub record Holds (n : ℕ) (z : TableRooms) : Type 0 where
  pub known : n ≤ length z.known
  pub is_silence : n ≤ length z.is_silence
  pub current_weight : n ≤ length z.current_weight

-- how many changes a call gave
abbrev pub given_by : Result ℕ Refusal → ℕ
given_by (Ok n) = n
given_by (Err e) = 0

-- what a call answers that left record s
abbrev pub answer_of : Result ℕ Refusal → SilenceWeighting → SilenceAnswer
answer_of r s = record { refusal = refused_by r; changes = given_by r; silence = s }

-- the same of a call that gives no changes, by its refusal's number
abbrev pub noted : ℕ → SilenceWeighting → SilenceAnswer
noted r s = record { refusal = r; changes = 0; silence = s }
