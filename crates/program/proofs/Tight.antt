-- The rules of specs/Habit.antt are exact: computed from the definitions, on the program's rooms.
use mathlib.Core.Path.{refl}
use Rattle.definition.proofs.Computed.{computed}
use Rattle.program.specs.Rooms.{ring_at, waiting_in}
use Rattle.program.specs.Calls.{answer_of, fresh_stream, new_answer, fresh_rooms, pushed_frames, pushed_rows, push_frame, forget_mark, forget_before, fetch_refusal, fetch_estimate, fetch_changes, fetch_stream, fetch_rooms, fetch_vector, fetch_nans, get_frame}
use Rattle.program.specs.Session.{reply, step_of, program_answers}
use Rattle.program.specs.Habit.{entered, may_come, in_habit}
use Rattle.program.specs.Examples.{Tight}

-- every definition of the program that is met on the way
unfoldable opened : Unit {0}
unfolding computed answer_of new_answer fresh_stream fresh_rooms ring_at waiting_in pushed_frames pushed_rows push_frame forget_mark forget_before fetch_refusal
    fetch_estimate fetch_changes fetch_stream fetch_rooms fetch_vector fetch_nans get_frame reply step_of program_answers entered may_come in_habit
opened = tt

pub tight : Tight
unfolding opened
tight = record { made = refl; made_frame_less = refl; made_row_less = refl; habit = refl; enough = refl; frame_less = refl; row_less = refl; habit_less = refl }
