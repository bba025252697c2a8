-- `options_in_range` meets its contract: where all tests but the last hold that one decides (`all-last` in Listed.antt; `at_most` and `held_inside` in
-- Within.antt).
use mathlib.Core.Path.{refl, sym, ◌∙◌}
use Rattle.definition.specs.Options.{options_in_range, max_window}
use Rattle.limits.proofs.Listed.{all-last}
use Rattle.limits.proofs.Within.{held_inside, at_most}
use Rattle.limits.proofs.options_in_range.Goals as goal

pub returns : goal.returns
unfolding options_in_range
returns c =
    let o = c.args.o in
    let n = c.new.ensures in
    let window = held_inside 1 max_window o.cmn_window n.start n.end n.exhausted c.contains.ensures.value refl c.if-not-contains.false in
    let n-2 = c.new-2.ensures in
    let frames = held_inside 1 10000 o.global_frames n-2.start n-2.end n-2.exhausted c.contains-2.ensures.value refl c.if-not-contains-2.false in
    let n-3 = c.new-3.ensures in
    let gselect = held_inside 1 32 o.num_gselect n-3.start n-3.end n-3.exhausted c.contains-3.ensures.value refl c.if-not-contains-3.false in
    c.is_finite-3.ensures
    ∙ all-last 9 _ refl (
      at_most 8 o.left_context c.if-o-gt8.false,
      (
        at_most 8 o.right_context c.if-o-gt8-2.false,
        (
          window,
          (
            frames,
            (
              gselect,
              (
                at_most 200 o.num_cg_iters c.if-o-gt200.false,
                (
                  sym c.is_share.ensures ∙ c.if-not-is_share.false,
                  (sym c.is_finite.ensures ∙ c.if-not-is_finite.false, (sym c.is_finite-2.ensures ∙ c.if-not-is_finite-2.false, tt)),
                ),
              ),
            ),
          ),
        ),
      ),
    )
