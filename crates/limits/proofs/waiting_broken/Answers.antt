-- Waiting frames out of order, or none, or one below the mark: of frames in order the first is the lowest, so that it alone is compared
-- (`sorted_rising`, `first_decides` in Ordered.antt).
use mathlib.Core.Path.{ap, ◌∙◌}
use mathlib.Core.Bool.{not}
use Prim.Native.Nat.{ℕ}
use lib.Dec.{ltb}
use Rattle.limits.proofs.Listed.{holds, fails}
use Rattle.limits.proofs.Ordered.{sorted_rising, waiting_unordered, waiting_none, first_decides, no_first}
use Rattle.limits.proofs.waiting_broken.Goals as goal

pub returns-then-not-is_sorted : goal.returns-then-not-is_sorted
returns-then-not-is_sorted c = waiting_unordered _ _ _ (fails (sorted_rising _ _ c.is_sorted.ensures.cases) (ap not c.if-not-is_sorted.true))

pub returns-in-Some : goal.returns-in-Some
returns-in-Some c =
    ap (λ (n : ℕ). ltb n c.args.mark) c.saturating_sub.ensures
    ∙ first_decides _ _ _ _ c.in-Some.ensures.value (holds (sorted_rising _ _ c.is_sorted.ensures.cases) (ap not c.if-not-is_sorted.false))

pub returns-in-None : goal.returns-in-None
returns-in-None c =
    waiting_none _ _ _ (no_first _ c.in-None.ensures.value) (holds (sorted_rising _ _ c.is_sorted.ensures.cases) (ap not c.if-not-is_sorted.false))
