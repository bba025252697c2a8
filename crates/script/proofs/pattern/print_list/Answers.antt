-- Invariant: one text more stands behind those before (`one_more`, Reading.antt).
use Rattle.std.proofs.Common.{ℕ, ◌+◌, ◌++◌, ◌∷◌, [], ap, ◌∙◌}
use Rattle.std.proofs.lemmas.List.{length-append}
use Rattle.script.proofs.Reading.{one_more}
use Rattle.script.proofs.pattern.print_list.Goals as goal

pub loop-x-preserved : goal.loop-x-preserved
loop-x-preserved g c =
    let before = c.loop-x.invariant in
    let now = c.in_ok-print.ensures in
    (before.0 ++ (now.0 ∷ []), length-append before.0 (now.0 ∷ []) ∙ ap (λ (n : ℕ). n + 1) before.1, one_more _ _ _ before.0 now.0 before.2 now.1)
