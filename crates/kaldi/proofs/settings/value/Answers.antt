-- `value` meets its contract: a line with the key is found (`found_here`) or passed (`not_here`); past the end there is none (`value_none`, all in Lines.antt).
use Rattle.std.proofs.Common.{◌≡◌, sym, ap, ◌∙◌, arith, rules, true, false, take, drop, length}
use Rattle.definition.specs.Reader.{run, same}
use Rattle.kaldi.specs.Settings as S
use Rattle.kaldi.proofs.Lines.{going, rest_is, from_in, from_out, value_none, found_here, not_here}
use Rattle.kaldi.proofs.settings.value.Goals.{After-line_len}
use Rattle.kaldi.proofs.settings.value.Goals as goal

pub loop-at-init : goal.loop-at-init
loop-at-init c = sym (ap (S.value _) (from_in _ 0 (omega arith)))

line_is : (c : After-line_len) → c.line_len.result ≡ run going (drop c.loop-at.at c.args.s.now)
line_is c = c.line_len.ensures.value ∙ ap (run going) (rest_is c.args.s.now c.loop-at.at)

pub returns-in-Some-clause-value : goal.returns-in-Some-clause-value
returns-in-Some-clause-value c =
    let a = c.args in
    let t : same (take (length a.key.now) c.trim-line.result.now) a.key.now ≡ true = search rules in
    let v : c.in-Some.v.now ≡ drop (length a.key.now) c.trim-line.result.now = search rules in
    found_here a.s.now a.key.now c.loop-at.at c.loop-at-test.true (line_is (goal.at.returns-in-Some-clause-value c).After-line_len) c.trim-line.ensures.value t (c.trim.ensures.value ∙ ap S.trim v)
    ∙ sym c.loop-at.invariant

pub loop-at-preserved : goal.loop-at-preserved
loop-at-preserved c =
    let a = c.args in
    let e : same (take (length a.key.now) c.trim-line.result.now) a.key.now ≡ false = search rules in
    c.loop-at.invariant ∙ not_here a.s.now a.key.now c.loop-at.at c.loop-at-test.true (line_is (goal.at.loop-at-preserved c).After-line_len) c.trim-line.ensures.value e

pub returns-clause-value : goal.returns-clause-value
returns-clause-value c = sym (c.loop-at.invariant ∙ ap (S.value _) (from_out _ _ c.loop-at-test.false) ∙ value_none _)
