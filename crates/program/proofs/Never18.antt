-- Request 8: no record at all is refused 18 by a change (`change-never-18`), and so no list of calls has it among its answers (`any-never-18`). A change
-- is judged once the record is not 10; then its mark is no higher than its floor less left context, and a list that names no frame below the floor
-- reaches none below the mark.
use mathlib.Core.Path.{◌≡◌, refl, sym, ◌∙◌}
use Prim.Native.Nat.{ℕ, ◌-◌, ◌≤◌}
use native.Mathlib.Omega.{arith}
use mathlib.Core.Bool.{Bool, true, false, true≢false}
use mathlib.Core.List.{List, [], ◌∷◌}
use lib.Dec.{eqb, ltb}
use borrow.Author.Tests.{ne_eqb, ltb-false}
use Rattle.loops.specs.Lists.{any_of}
use Rattle.loops.proofs.Choose.{or_none}
use Rattle.loops.proofs.Tests.{none_of}
use Rattle.definition.specs.declared.IvectorStream.{IvectorStream}
use Rattle.definition.specs.Model.{Tables}
use Rattle.definition.specs.Machine.{Call, push, finish, change, forget, set_window, fetch, push_tests, change_tests, window_tests, fetch_tests}
use Rattle.definition.specs.Stream.{breaks, is_foreign}
use Rattle.definition.proofs.Floor.{first-either, first-not, reach-none}
use Rattle.program.specs.Calls.{Step, push_frame, set_input_finished, update_frame_weights, forget_before, set_cmn_window, fetch_refusal, get_frame}
use Rattle.program.specs.Session.{Program, stepped, reply, step_of, program_answers}
use Rattle.program.proofs.Returned.{number_is}
use Rattle.program.specs.Keeping.{ChangeNever18, AnyNever18}

module _ (s : IvectorStream) where
  abbrev left : ℕ
  left = s.info.opts.left_context

  -- of a record that is not broken
  mark_low : (waiting : List ℕ) → is_foreign s waiting ≡ false → s.mark ≤ s.floor - left
  unfolding is_foreign breaks
  mark_low waiting e = ltb-false (s.floor - left) s.mark (none_of (λ t. t) (breaks s waiting) e).1.1.1.1.1.0

pub change-never-18 : ChangeNever18
unfolding update_frame_weights change_tests
change-never-18 s z fs ws =
    first-either 18 _ _ (λ q. omega arith)
    (λ same. first-either 18 _ _ (λ q. omega arith)
    (λ sound. first-either 18 _ _ (λ q. omega arith)
    (λ even. first-either 18 _ _ (λ q. omega arith)
    (λ near. first-either 18 _ _ (λ q. omega arith)
    (λ high. first-either 18 _ _ (λ q e. true≢false (sym q ∙ reach-none s.info.opts.left_context s.mark s.floor fs (mark_low s z.waiting_frames sound) high))
    (λ back. first-not 18 _ (omega arith) (omega arith, tt)))))))

module _ (t : Tables) (n : ℕ) where
  step_not : (p : Program) (c : Call) → (step_of t n p c).refusal ≡ 18 → ⊥
  unfolding step_of push_frame push_tests set_input_finished forget_before set_cmn_window window_tests get_frame fetch_refusal fetch_tests
  step_not p (push x) e = first-not 18 _ (omega arith) (omega arith, (omega arith, (omega arith, (omega arith, (omega arith, (omega arith, (omega arith, tt))))))) e
  step_not p finish e = first-not 18 _ (omega arith) (omega arith, (omega arith, tt)) e
  step_not p (change fs ws) e = change-never-18 p.stream p.rooms.rings fs ws e
  step_not p (forget f) e = first-not 18 _ (omega arith) (omega arith, (omega arith, tt)) e
  step_not p (set_window w) e = first-not 18 _ (omega arith) (omega arith, (omega arith, (omega arith, (omega arith, tt)))) e
  step_not p (fetch f m) e = first-not 18 _ (omega arith) (omega arith, (omega arith, (omega arith, (omega arith, (omega arith, (omega arith, tt)))))) e

  none_18 : (p : Program) (cs : List Call) → any_of (λ a. eqb a.told.refusal 18) (program_answers t n p cs) ≡ false
  unfolding program_answers any_of reply
  none_18 p [] = refl
  none_18 p (c ∷ cs) =
      let x : Step = step_of t n p c in
      or_none (eqb (reply p x).told.refusal 18) _ (ne_eqb _ 18 (λ e. step_not p c (sym (number_is x.refusal _ _ _) ∙ e))) (none_18 (stepped p x) cs)

pub any-never-18 : AnyNever18
any-never-18 t n p cs = none_18 t n p cs
