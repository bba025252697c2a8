-- `record_sound` meets its contract: where the first two tests hold the last decides (`all-last` in Listed.antt).
use mathlib.Core.Path.{refl, sym, ◌∙◌}
use mathlib.Core.Bool.{true≢false}
use Rattle.definition.specs.Stream.{record_sound}
use Rattle.limits.proofs.Listed.{all-last}
use Rattle.limits.proofs.record_sound.Goals.{then-options_in_range, else-options_in_range}
use Rattle.limits.proofs.record_sound.Goals as goal

pub returns-then-dims_in_range : goal.returns-then-dims_in_range
unfolding record_sound
returns-then-dims_in_range c =
    c.dims_agree.ensures
    ∙ all-last 2 _ refl
    (elim c.if-options_in_range.branch [
      | then-options_in_range w ↦ (sym c.options_in_range.ensures ∙ w.if-options_in_range.true, (sym w.dims_in_range.ensures ∙ sym w.value-is ∙ c.if-dims_in_range.true, tt))
      | else-options_in_range w ↦ absurd (true≢false (sym c.if-dims_in_range.true ∙ w.value-is ∙ w.if-options_in_range.false))
    ])
