-- run_calls: words of inner contracts, a call of a list and what it leaves.
use Rattle.std.specs.Prelude.{◌≡◌, List, ℕ, ◌≤◌, ◌+◌, ◌-◌, ◌*◌, min, length, get_or, Float}
use Rattle.loops.specs.Ring.{put}
use Rattle.definition.specs.declared.IvectorStream.{IvectorStream}
use Rattle.definition.specs.declared.StreamAnswer.{StreamAnswer}
use Rattle.definition.specs.Model.{Tables}
use Rattle.definition.specs.Machine.{Call, push, finish, change, forget, set_window, fetch}
use Rattle.program.specs.Rooms.{Rings}
use Rattle.program.specs.Calls.{RingStep, push_frame, set_input_finished, update_frame_weights, forget_before, set_cmn_window}
use Rattle.program.specs.Session.{Program, stepped, step_of, reply}
use Rattle.lists.specs.Listed.{part, of_kind}
use Rattle.lists.specs.declared.run_calls.CodedCall.{CodedCall}
use Rattle.lists.specs.declared.run_calls.Kind.{Kind}
use Rattle.lists.specs.declared.run_calls.Kind.TheVariants as K

-- what a number has to be that tells a kind
abbrev pub Means : ℕ → Kind → Type 0
Means n K.Push = n ≡ 0
Means n K.Finish = n ≡ 1
Means n K.Change = n ≡ 2
Means n K.Forget = n ≡ 3
Means n K.Fetch = (4 ≤ n) × (n ≡ 5 → ⊥)
Means n K.Window = n ≡ 5

-- a call that gets the rings alone; a fetch is none
unfoldable pub ring_step_of : IvectorStream → Rings → Call → RingStep
ring_step_of s z (push x) = push_frame s z x
ring_step_of s z finish = set_input_finished s z
ring_step_of s z (change fs ws) = update_frame_weights s z fs ws
ring_step_of s z (forget f) = forget_before s z f
ring_step_of s z (set_window w) = set_cmn_window s z w
ring_step_of s z (fetch f m) = set_input_finished s z

-- a call as code reads it, and what it is over lists, samples and outputs of n numbers
abbrev pub coded_at : List ℕ → List ℕ → ℕ → CodedCall
coded_at kinds numbers i =
    record {
      kind = get_or kinds i 0;
      a = get_or numbers (i * 4) 0;
      b = get_or numbers (i * 4 + 1) 0;
      c = get_or numbers (i * 4 + 2) 0;
      d = get_or numbers (i * 4 + 3) 0;
    }

unfoldable pub decoded : CodedCall → List ℕ → List Float → ℕ → Call
decoded k lists samples n =
    of_kind k.kind k.a (part k.a k.b samples) (part k.a k.b lists) (part k.c k.d samples) (min (k.c - k.b) (n - k.b))

-- call c of program p, played: its answer a, the program afterwards, and the outputs with its vector from b on
pub record Turned (t : Tables) (n : ℕ) (p : Program) (c : Call) (b : ℕ) (outs : List ℕ) (a : StreamAnswer) (q : Program) (outs' : List ℕ) : Type 0 where
  pub step : stepped p (step_of t n p c) ≡ q
  pub told_is : (reply p (step_of t n p c)).told ≡ a
  pub outs_are : outs' ≡ put (min b (length outs)) (reply p (step_of t n p c)).vector outs
