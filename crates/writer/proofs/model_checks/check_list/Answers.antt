-- `check_list` meets its contract: an item that is not kept ends it (`list_bad`), else a turn is `list_turn`, the end `list_end` (laws over both widths in
-- Order.antt).
use borrow.Author.Rules.{rules}
use mathlib.Core.Path.{sym, ap, ◌∙◌}
use lib.Ieee.{binary32}
use Rattle.definition.specs.Reader.{kept}
use Rattle.writer.proofs.Order.{failed, number_is, passed, as_long, list_bad, list_turn, list_end}
use Rattle.writer.proofs.model_checks.check_list.Goals as goal

pub returns-in_err-need-2 : goal.returns-in_err-need-2
returns-in_err-need-2 g c =
    let a = c.args in
    let not_good = sym (c.is_kept.ensures ∙ ap (kept a.positive) c.keep.ensures) ∙ failed _ _ _ c.in_err-need-2.ensures in
    let bad = list_bad g.W.Real.float g.W.Real.format binary32 a.positive a.xs.now a.n (as_long _ _ c.in_ok-need.ensures) c.loop-x.x-index c.x-item.result c.loop-x-test.true c.x-item.is not_good in
    let six = number_is _ _ _ c.in_err-need-2.ensures in
    rw (sym bad) (search (rules, six))

pub loop-x-preserved : goal.loop-x-preserved
loop-x-preserved g c =
    let a = c.args in
    let good = sym (c.is_kept.ensures ∙ ap (kept a.positive) c.keep.ensures) ∙ passed _ _ tt c.in_ok-need-2.ensures in
    list_turn g.W.Real.float g.W.Real.format binary32 a.positive a.xs.now c.loop-x.x-index c.x-item.result c.loop-x-test.true c.x-item.is good c.loop-x.invariant

pub returns : goal.returns
returns g c =
    let a = c.args in
    list_end g.W.Real.float g.W.Real.format binary32 a.positive a.xs.now a.n (as_long _ _ c.in_ok-need.ensures) c.loop-x.x-index c.loop-x-test.false c.loop-x.invariant
