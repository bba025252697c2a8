-- `row` meets its contract: a turn and each way out are the `outline-..` and `outline_..` laws of Rows.antt.
use Rattle.std.proofs.Common.{◌≡◌, ℕ, List, true, false, ◌||◌, ap, sym, ◌∙◌, arith, rules}
use lib.Ieee.{binary64}
use Rattle.loops.specs.Refusal.{first_of}
use Rattle.definition.specs.Number.{number_of}
use Rattle.definition.specs.Reader.{here, read, refused}
use Rattle.definition.specs.Text.{number, space, stop, row}
use Rattle.kaldi.proofs.TextRuns.{passed}
use Rattle.kaldi.proofs.Rows.{Turning, Kept, outline-long, outline_stop, outline_bad, outline_joined, outline_turn}
use Rattle.kaldi.proofs.kaldi_text.types.TextReader.row.Goals.{After-skip_gaps, Then-stops, Else-stops, In_ok-last}
use Rattle.kaldi.proofs.kaldi_text.types.TextReader.row.Goals as goal

same : (c : After-skip_gaps) → c.skip_gaps.new.self.src.now ≡ c.args.self.now.src.now
same c = c.skip_gaps.ensures.same_bytes ∙ c.loop-len.invariant.same_bytes

turning : (c : After-skip_gaps) → Turning c.args.self.now.src.now c.args.self.now.at c.loop-len.len c.loop-len.last c.loop-len.self.at c.skip_gaps.new.self.at
turning c = record { passed = c.loop-len.invariant.outlined; few = c.loop-len-test.true; behind = cc }

stopped : (c : Then-stops) → Kept (row 66 c.args.self.now.src.now c.args.self.now.at) c.loop-len.len c.loop-len.last c.skip_gaps.new.self.at
stopped c = let e : here stop c.args.self.now.src.now c.skip_gaps.new.self.at ≡ true = cc in outline_stop (turning (goal.at.Then-stops c).After-skip_gaps) e

goes_on : (c : Else-stops) → here stop c.args.self.now.src.now c.skip_gaps.new.self.at ≡ false
goes_on c = cc

-- the number there
found : (c : In_ok-last) → read c.in_ok-last.last c.number.new.self.at ≡ number binary64 c.args.self.now.src.now c.skip_gaps.new.self.at
found c = c.in_ok-last.ensures.value ∙ ap (λ (l : List ℕ). number binary64 l c.skip_gaps.new.self.at) (same (goal.at.In_ok-last c).After-skip_gaps)

pub returns-then-stops-clause-value : goal.returns-then-stops-clause-value
returns-then-stops-clause-value c = (stopped (goal.at.returns-then-stops-clause-value c).Then-stops).value

pub returns-then-stops-clause-outline : goal.returns-then-stops-clause-outline
returns-then-stops-clause-outline c =
    let k = stopped (goal.at.returns-then-stops-clause-outline c).Then-stops in
    record { many = k.many; final = k.final; few = omega arith }

pub returns-in_err-last-clause-value : goal.returns-in_err-last-clause-value
returns-in_err-last-clause-value c =
    let a = c.args.self.now in
    let at = goal.at.returns-in_err-last-clause-value c in
    let e = c.in_err-last.ensures.value ∙ ap (λ (l : List ℕ). number binary64 l c.skip_gaps.new.self.at) (same at.After-skip_gaps) in
    let h : refused (number_of c.in_err-last.field-0.0) ≡ row 66 a.src.now a.at = outline_bad (turning at.After-skip_gaps) (goes_on at.Else-stops) e in
    search rules

pub returns-in_err-need-clause-value : goal.returns-in_err-need-clause-value
unfolding first_of
returns-in_err-need-clause-value c =
    let at = goal.at.returns-in_err-need-clause-value c in
    search rules ∙ sym (outline_joined (turning at.After-skip_gaps) (goes_on at.Else-stops) (found at.In_ok-last))

pub loop-len-preserved : goal.loop-len-preserved
loop-len-preserved c =
    let at = goal.at.loop-len-preserved c in
    let t = passed _ 7 (omega arith) c.in_ok-need.ensures in
    let e : here (λ b. space b || stop b) c.args.self.now.src.now c.number.new.self.at ≡ true = cc in
    record { same_bytes = cc; outlined = outline_turn (turning at.After-skip_gaps) (goes_on at.Else-stops) (found at.In_ok-last) e }

pub returns-clause-value : goal.returns-clause-value
returns-clause-value c = outline-long c.loop-len.invariant.outlined c.loop-len-test.false
