-- `decimal` meets its contract: its parts are those of the definition's `number` (`Parts` in Numbers.antt), and what the code counts up to a cap does not show.
use Rattle.std.proofs.Common.{◌≡◌, ℕ, List, ◌+◌, ◌<◌, ◌≤◌, ap, ◌∙◌, arith, rules, length}
use borrow.Author.Tests.{ltb-true}
use Rattle.loops.specs.Refusal.{first_of}
use Rattle.definition.specs.Number.{number_of}
use Rattle.definition.specs.Reader.{read, refused}
use Rattle.definition.specs.Text.{number, exponent}
use Rattle.kaldi.specs.Inner.KaldiText.{capped}
use Rattle.kaldi.proofs.TextRuns.{passed}
use Rattle.kaldi.proofs.Numbers.{Parts, number_by, number_refused, number_under, number_over}
use Rattle.kaldi.proofs.kaldi_text.types.TextReader.decimal.Goals.{After-fraction-part, In_ok-need, In_ok-power}
use Rattle.kaldi.proofs.kaldi_text.types.TextReader.decimal.Goals as goal

parts : (c : After-fraction-part) → Parts c.args.self.now.src.now c.args.self.now.at c.sign-minus.result c.digits-whole.result.now c.fraction-part.result.now
    c.sign-minus.new.self.at c.digits-whole.new.self.at c.fraction-part.new.self.at
parts c = record { lead = c.sign-minus.ensures.value; whole = cc; part = cc }

same : (c : After-fraction-part) → c.fraction-part.new.self.src.now ≡ c.args.self.now.src.now
same c = c.fraction-part.ensures.same_bytes ∙ c.digits-whole.ensures.same_bytes ∙ c.sign-minus.ensures.same_bytes

-- one digit at least
some : (c : In_ok-need) → 0 < length c.digits-whole.result.now + length c.fraction-part.result.now
some c = ltb-true 0 (length c.digits-whole.result.now + length c.fraction-part.result.now) (passed _ 7 (omega arith) c.in_ok-need.ensures)

short : (c : In_ok-need) → length c.fraction-part.result.now ≤ 65536
short c = omega (arith, c.fraction-part.ensures.in_bounds, ap length c.digits-whole.ensures.same_bytes, ap length c.sign-minus.ensures.same_bytes)

held : (c : In_ok-power) → read (record { under = c.in_ok-power.power.under; magnitude = c.in_ok-power.power.magnitude }) c.exponent.new.self.at
    ≡ capped (exponent c.args.self.now.src.now c.fraction-part.new.self.at)
held c = c.in_ok-power.ensures.value ∙ ap (λ (l : List ℕ). capped (exponent l c.fraction-part.new.self.at)) (same (goal.at.In_ok-power c).After-fraction-part)

pub returns-in_err-need-clause-value : goal.returns-in_err-need-clause-value
unfolding first_of
returns-in_err-need-clause-value c f = rw (number_by (parts (goal.at.returns-in_err-need-clause-value c).After-fraction-part) f) (search rules)

pub returns-in_err-power-clause-value : goal.returns-in_err-power-clause-value
returns-in_err-power-clause-value c f =
    let a = c.args.self.now in
    let e = c.in_err-power.ensures.value ∙ ap (λ (l : List ℕ). capped (exponent l c.fraction-part.new.self.at)) (same (goal.at.returns-in_err-power-clause-value c).After-fraction-part) in
    let h : refused (number_of c.in_err-power.field-0.0) ≡ number f a.src.now a.at
    = number_refused (parts (goal.at.returns-in_err-power-clause-value c).After-fraction-part) f (some (goal.at.returns-in_err-power-clause-value c).In_ok-need) e in
    search rules

pub returns-then-power-clause-value : goal.returns-then-power-clause-value
returns-then-power-clause-value c f =
    let at = goal.at.returns-then-power-clause-value c in
    number_under (parts at.After-fraction-part) f (some at.In_ok-need) (held at.In_ok-power) c.value_of.ensures c.value_of-m.ensures c.if-power.true (short at.In_ok-need)

pub returns-clause-value : goal.returns-clause-value
returns-clause-value c f =
    let at = goal.at.returns-clause-value c in
    number_over (parts at.After-fraction-part) f (some at.In_ok-need) (held at.In_ok-power) c.value_of.ensures c.value_of-m.ensures c.if-power.false (short at.In_ok-need)
