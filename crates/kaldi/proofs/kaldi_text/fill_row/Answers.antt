-- `fill_row` meets its contract: a number is there at every turn, since the text was checked (`number_there`); a turn is `row_rest` and `number_value`
-- (Rows.antt).
use Rattle.std.proofs.Common.{◌≡◌, ℕ, List, refl, ap, ◌∙◌, arith, rules}
use lib.Ieee.{binary64}
use Rattle.loops.proofs.Fill.{fill_none, fill_turn, fill_end}
use Rattle.definition.specs.Text.{line, number}
use Rattle.kaldi.specs.Inner.KaldiIoAnswers.{place_of}
use Rattle.kaldi.specs.Inner.KaldiTextAnswers.{cells}
use Rattle.kaldi.proofs.Rows.{line_is, row_place, row-filled, Reading, number_there, number_value, row_rest}
use Rattle.kaldi.proofs.kaldi_text.fill_row.Goals.{After-skip_gaps}
use Rattle.kaldi.proofs.kaldi_text.fill_row.Goals as goal

pub loop-i-init : goal.loop-i-init
loop-i-init c =
    record {
      same_length = refl;
      same_bytes = c.skip_spaces.ensures.same_bytes;
      rest = line_is c.args.s.now c.args.from _ c.skip_spaces.ensures.value ∙ row_place _ c.requires.stands;
      filled = fill_none _ _;
    }

same : (c : After-skip_gaps) → c.skip_gaps.new.self.src.now ≡ c.args.s.now
same c = c.skip_gaps.ensures.same_bytes ∙ c.loop-i.invariant.same_bytes

-- a turn, with the place behind the gap
reading : (c : After-skip_gaps) → Reading c.args.s.now (cells (line c.args.s.now c.args.from)) (place_of (line c.args.s.now c.args.from)) c.loop-i.i c.loop-i.r.at c.skip_gaps.new.self.at
reading c =
    let pre = c.requires in
    record { behind = cc; more = omega (arith, pre.many, c.loop-i.invariant.same_length); few = omega (arith, pre.many, pre.high); there = c.loop-i.invariant.rest }

pub returns-in-Err : goal.returns-in-Err
returns-in-Err c =
    let at = goal.at.returns-in-Err c in
    absurd (number_there (reading at.After-skip_gaps) (c.in-Err.ensures.value ∙ ap (λ (l : List ℕ). number binary64 l c.skip_gaps.new.self.at) (same at.After-skip_gaps)))

pub loop-i-preserved : goal.loop-i-preserved
loop-i-preserved c =
    let at = goal.at.loop-i-preserved c in
    let o = reading at.After-skip_gaps in
    let found = c.in-Ok.ensures.value ∙ ap (λ (l : List ℕ). number binary64 l c.skip_gaps.new.self.at) (same at.After-skip_gaps) in
    record { same_length = search rules; same_bytes = cc; rest = row_rest o found; filled = fill_turn _ _ _ (omega arith) c.loop-i.invariant.filled (number_value o found) }

pub returns : goal.returns
returns c = fill_end _ _ _ _ (omega arith) c.loop-i-test.false c.loop-i.invariant.filled ∙ row-filled _ c.args.out.now refl c.requires.many
