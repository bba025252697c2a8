-- The steps of a round by their numbers, and what a step gives that a refusal may have ended.
use Rattle.std.specs.Prelude.{ℕ, Result, Ok, Err}
use Rattle.definition.specs.declared.refusal.Refusal.{Refusal}
use Rattle.definition.specs.Number.{number_of as refusal_number}
use Rattle.rounds.specs.declared.trigger_steps.Halt.{Halt}
use Rattle.rounds.specs.declared.trigger_steps.Step.{Step}
use Rattle.rounds.specs.declared.trigger_steps.Step.TheVariants as S

abbrev pub number_of : Step → ℕ
number_of S.Forget = 1
number_of S.Push = 2
number_of S.Note = 3
number_of S.Weigh = 4
number_of S.Change = 5
number_of S.Fetch = 6
number_of S.Find = 7

-- what a call of step k gave
abbrev pub halted : {A : Type 0} → Step → Result A Refusal → Result A Halt
halted k (Ok a) = Ok a
halted k (Err e) = Err (record { refusal = refusal_number e; step = number_of k })

-- the refusal's number and its step, 0 where none was refused
abbrev pub refusal_in : {A : Type 0} → Result A Halt → ℕ
refusal_in (Ok a) = 0
refusal_in (Err h) = h.refusal

abbrev pub step_in : {A : Type 0} → Result A Halt → ℕ
step_in (Ok a) = 0
step_in (Err h) = h.step

-- how many changes weighing gave
abbrev pub given_in : Result ℕ Halt → ℕ
given_in (Ok n) = n
given_in (Err h) = 0
