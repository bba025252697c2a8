-- `fill` meets its contract: what the tests that were passed say of the sizes and of the lists (Steps.antt).
use mathlib.Core.Path.{sym}
use native.Mathlib.Omega.{arith}
use Rattle.lists.proofs.Steps.{size_taken, list_taken}
use Rattle.lists.proofs.try_load.fill.Goals as goal

pub overflow_cast-state : goal.overflow_cast-state
overflow_cast-state c = omega (arith, (size_taken _ _ _ (sym c.in_ok-size_refusal.ensures.value)).0)

pub list_refusal-requires : goal.list_refusal-requires
list_refusal-requires c = let h = size_taken _ _ _ (sym c.in_ok-size_refusal.ensures.value) in (h.1, h.2)

pub fill_lists-requires : goal.fill_lists-requires
fill_lists-requires c =
    let h = size_taken _ _ _ (sym c.in_ok-size_refusal.ensures.value) in
    let l = list_taken _ _ _ _ _ _ _ (sym c.in_ok-list_refusal.ensures) in
    (h.1, h.2, l.0, l.1, l.2, l.3)
