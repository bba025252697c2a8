-- Request 10's example: a quiet frame's own view depends on the fetches before it. Computed from the definitions, on the program's rooms.
use mathlib.Core.Path.{◌≡◌, refl, sym, ap, ◌∙◌}
use Prim.Native.Nat.{ℕ}
use native.Mathlib.Omega.{arith}
use mathlib.Core.List.{List, [], ◌∷◌}
use lib.ListN.{get_or}
use Rattle.floats.specs.Operators.{f32}
use Rattle.definition.specs.Machine.{fetch, bits_of}
use Rattle.definition.proofs.Computed.{computed}
use Rattle.program.specs.Rooms.{ring_at, waiting_in}
use Rattle.program.specs.Calls.{answer_of, fresh_stream, new_answer, fresh_rooms, pushed_frames, pushed_rows, push_frame, fetch_refusal, fetch_estimate, fetch_changes, fetch_stream, fetch_rooms, fetch_vector, fetch_nans, get_frame}
use Rattle.program.specs.Session.{step_of, program_after}
use Rattle.program.specs.Loud.{view_by}
use Rattle.program.specs.Examples.{Made, seen, Quiet}

-- every definition of the program that is met on the way
unfoldable opened : Unit {0}
unfolding computed answer_of new_answer fresh_stream fresh_rooms ring_at waiting_in pushed_frames pushed_rows push_frame fetch_refusal fetch_estimate fetch_changes
    fetch_stream fetch_rooms fetch_vector fetch_nans get_frame step_of program_after view_by
opened = tt

made-there : Made 0 600 2 3
unfolding opened
made-there = refl

fetched-before : bits_of (seen made-there (f32 0x3f19_999a) (fetch 0 1 ∷ [])) ≡ 0xbd46_2910 ∷ []
unfolding opened
fetched-before = refl

fetched-not : bits_of (seen made-there (f32 0x3f19_999a) []) ≡ 0x3dcc_ccd0 ∷ []
unfolding opened
fetched-not = refl

pub quiet : Quiet
unfolding opened
quiet =
    record {
      made = made-there;
      fetched = fetched-before;
      not_fetched = fetched-not;
      differs = λ e. omega (arith, ap (λ (v : List ℕ). get_or v 0 0) (sym fetched-before ∙ ap bits_of e ∙ fetched-not));
      loud_fetched = refl;
      loud_not_fetched = refl;
    }
