-- `taken` meets its contract: where no frame is named the batch is the same (`none_named`, Places.antt), and what else is asked is asked of `changes` alone.
use mathlib.Core.Path.{◌≡◌, sym, subst, ◌∙◌}
use mathlib.Core.Bool.{false, true≢false}
use Prim.Native.Nat.{◌≤◌}
use native.Mathlib.Omega.{arith}
use lib.ListN.{length}
use Rattle.definition.specs.Changes.{Batch}
use Rattle.stream.proofs.Places.{none_named}
use Rattle.stream.proofs.ivector_batch.intake.Intake.taken.Goals.{Joined-then-self, then-self-via-then-self, then-self-via-else-self+then-self-2}
use Rattle.stream.proofs.ivector_batch.intake.Intake.taken.Goals as goal

-- no frame is taken from `next` on
none : (c : Joined-then-self) → c.args.self.now.called ≡ false → c.args.self.now.end ≤ c.args.self.now.next
none c h =
    elim c.then-self.branch [
      | then-self-via-then-self w ↦ absurd (true≢false (sym w.if-self.true ∙ h))
      | then-self-via-else-self+then-self-2 w ↦ omega (arith, w.if-self-2.true)
    ]

pub returns-then-self-clause-held : goal.returns-then-self-clause-held
returns-then-self-clause-held c o h =
    record {
      in_order = omega arith;
      there = omega arith;
      few = h.few;
      frames_wait = h.frames_wait;
      weights_wait = h.weights_wait;
      in_reach = h.in_reach;
      short = subst (λ (bs : Batch). length bs ≤ 1000000000) (sym (none_named o c.args.self.now (none (goal.at.returns-then-self-clause-held c).Joined-then-self))) h.short;
    }

pub returns-then-self-clause-batch : goal.returns-then-self-clause-batch
returns-then-self-clause-batch c o = none_named o c.args.self.now (none (goal.at.returns-then-self-clause-batch c).Joined-then-self)
