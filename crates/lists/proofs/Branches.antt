-- What a call of each kind leaves, from its function's contract: a step of the program, by its refusal number.
use mathlib.Core.Path.{◌≡◌, refl, sym, ap, ap₂, ◌∙◌}
use mathlib.Core.List.{List}
use Prim.Native.Nat.{ℕ, zero, suc, ◌≤◌, ◌<◌}
use native.Mathlib.Omega.{arith}
use borrow.Author.Tests.{ne_eqb}
use lib.ListN.{length}
use lib.Ieee.{Float}
use Rattle.loops.specs.Lists.{over, those}
use Rattle.definition.specs.declared.IvectorStream.{IvectorStream}
use Rattle.definition.specs.declared.StreamCall.{StreamCall}
use Rattle.definition.specs.Model.{Tables}
use Rattle.definition.specs.Machine.{Call, set_window, fetch, not_finite}
use Rattle.program.specs.Rooms.{Rings, Rooms, rooms_from}
use Rattle.program.specs.Calls.{RingStep, RingCall, ring_call, done_on, push_frame, set_input_finished, update_frame_weights, forget_before, set_cmn_window, Step, FetchCall, fetch_call, fetched_on, get_frame}
use Rattle.program.specs.Session.{Program, program, on_rings, stepped, reply, step_of}
use Rattle.program.proofs.Returned.{left, fetched_is, done_is, left_program, left_told, left_output}
use Rattle.lists.specs.Listed.{of_kind}
use Rattle.lists.specs.Turns.{ring_step_of}

-- one call of program p: what it returns, and the rooms and the output afterwards
pub record Called (t : Tables) (n : ℕ) (p : Program) (c : Call) (r : StreamCall) (z : Rooms) (out out' : List ℕ) : Type 0 where
  pub step : stepped p (step_of t n p c) ≡ program r.stream z
  pub told_is : (reply p (step_of t n p c)).told ≡ r.answer
  pub output_is : out' ≡ over (reply p (step_of t n p c)).vector out

called : (t : Tables) (n : ℕ) (p : Program) (c : Call) (out : List ℕ) (x : Step) {r : StreamCall} {z : Rooms} {out' : List ℕ}
    → step_of t n p c ≡ x → fetch_call r z out' ≡ left p out x → Called t n p c r z out out'
called t n p c out x e h =
    record {
      step = ap (stepped p) e ∙ left_program p out x h;
      told_is = ap (λ (x : Step). (reply p x).told) e ∙ left_told p out x h;
      output_is = left_output p out x h ∙ ap (λ (x : Step). over (reply p x).vector out) (sym e);
    }

-- ---- a call of each kind

module _ (f : ℕ) (x : List Float) (fs : List ℕ) (ws : List Float) where
  -- on the rings
  module _ (s : IvectorStream) (z : Rings) where
    abbrev rings_do : ℕ → RingStep
    rings_do kind = ring_step_of s z (of_kind kind f x fs ws 0)

    pub push_done : (kind : ℕ) → kind ≡ 0 → push_frame s z x ≡ rings_do kind
    unfolding of_kind ring_step_of
    push_done kind e = rw e

    pub finish_done : (kind : ℕ) → kind ≡ 1 → set_input_finished s z ≡ rings_do kind
    unfolding of_kind ring_step_of
    finish_done kind e = rw e

    pub change_done : (kind : ℕ) → kind ≡ 2 → update_frame_weights s z fs ws ≡ rings_do kind
    unfolding of_kind ring_step_of
    change_done kind e = rw e

    pub forget_done : (kind : ℕ) → kind ≡ 3 → forget_before s z f ≡ rings_do kind
    unfolding of_kind ring_step_of
    forget_done kind e = rw e

  a_fetch : (kind m : ℕ) → 4 ≤ kind → (kind ≡ 5 → ⊥) → of_kind kind f x fs ws m ≡ fetch f m
  unfolding of_kind
  a_fetch kind m h g =
      simp (ne_eqb kind 0 (λ e. omega arith), ne_eqb kind 1 (λ e. omega arith), ne_eqb kind 2 (λ e. omega arith), ne_eqb kind 3 (λ e. omega arith), ne_eqb kind 5 g)

  a_window : (kind m : ℕ) → kind ≡ 5 → of_kind kind f x fs ws m ≡ set_window f
  unfolding of_kind
  a_window kind m e = rw e

  module _ (t : Tables) (n : ℕ) (s : IvectorStream) (z : Rooms) where
    abbrev p : Program
    p = program s z

    on_rings_is : (kind m : ℕ) → kind < 4 → step_of t n p (of_kind kind f x fs ws m) ≡ on_rings z (ring_step_of s z.rings (of_kind kind f x fs ws 0))
    unfolding of_kind ring_step_of step_of
    on_rings_is zero m h = refl
    on_rings_is (suc zero) m h = refl
    on_rings_is (suc (suc zero)) m h = refl
    on_rings_is (suc (suc (suc zero))) m h = refl
    on_rings_is (suc (suc (suc (suc k)))) m h = absurd (omega arith)

    -- whatever output is thought of
    pub called_rings : (kind m : ℕ) (out : List ℕ) {r : StreamCall} {w : Rings} → kind < 4
        → ring_call r w ≡ done_on s z.rings (ring_step_of s z.rings (of_kind kind f x fs ws 0))
        → Called t n p (of_kind kind f x fs ws m) r (rooms_from w z.estimate) out out
    called_rings kind m out k h =
        let y : RingStep = ring_step_of s z.rings (of_kind kind f x fs ws 0) in
        called t n p _ out (on_rings z y) (on_rings_is kind m k) (ap (λ (q : RingCall). fetch_call q.call (rooms_from q.rings z.estimate) out) h ∙ done_is p out y)

    pub called_window : (kind m : ℕ) (out : List ℕ) {r : StreamCall} {w : Rings} → kind ≡ 5 → ring_call r w ≡ done_on s z.rings (set_cmn_window s z.rings f)
        → Called t n p (of_kind kind f x fs ws m) r (rooms_from w z.estimate) out out
    unfolding step_of
    called_window kind m out k h =
        let y : RingStep = set_cmn_window s z.rings f in
        called t n p _ out (on_rings z y) (ap (step_of t n p) (a_window kind m k)) (ap (λ (q : RingCall). fetch_call q.call (rooms_from q.rings z.estimate) out) h ∙ done_is p out y)

    pub called_fetch : (kind : ℕ) (out : List ℕ) {r : StreamCall} {y : Rooms} {out' : List ℕ} → 4 ≤ kind → (kind ≡ 5 → ⊥)
        → fetch_call r y out' ≡ fetched_on s z out (get_frame s t z n f (length out))
        → Called t n p (of_kind kind f x fs ws (length out)) r y out out'
    unfolding step_of
    called_fetch kind out k l h =
        let y : Step = get_frame s t z n f (length out) in
        called t n p _ out y (ap (step_of t n p) (a_fetch kind (length out) k l)) (h ∙ fetched_is p out y)
