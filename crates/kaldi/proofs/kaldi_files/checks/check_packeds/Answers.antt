-- `check_packeds` meets its contract: its loop keeps the tally of the run (Runs.antt).
use mathlib.Core.Bool.{and_assoc}
use Rattle.std.proofs.Common.{rules, ◌≡◌, ap, sym, refl, ◌∙◌, arith}
use Rattle.definition.specs.Kaldi.{packed_matrix}
use Rattle.definition.specs.Number.{number_of}
use Rattle.definition.specs.Reader.{refused}
use Rattle.kaldi.specs.Inner.KaldiIoGot.{parsed, as_read}
use Rattle.kaldi.specs.Inner.KaldiFilesAnswers.{square_as}
use Rattle.kaldi.proofs.FileRuns.{tally_start, tally_stop, tally_turn, tally_end}
use Rattle.kaldi.proofs.kaldi_files.checks.check_packeds.Goals as goal

pub loop-init : goal.loop-init
loop-init c = record { so_far = tally_start _ _ _ _ _; same_source = refl }

pub returns-in_err-m-clause-value : goal.returns-in_err-m-clause-value
returns-in_err-m-clause-value c =
    let a = c.args in
    let loop = c.loop in
    let here = ap (λ b. packed_matrix b.now loop.r.at) (sym loop.invariant.same_source) in
    let none : parsed as_read c.from_residual.result c.packed.new.self.at ≡ refused (number_of c.in_err-m.field-0.0) = search rules in
    none ∙ tally_stop (square_as a.dim) packed_matrix a.r.now.src.now a.r.now.at a.count loop.alike loop.r.at loop.counter loop.invariant.so_far (omega arith) (here ∙ sym c.in_err-m.ensures.value)

pub loop-preserved : goal.loop-preserved
loop-preserved c =
    let a = c.args in
    let loop = c.loop in
    let here = ap (λ b. packed_matrix b.now loop.r.at) (sym loop.invariant.same_source) in
    record {
      so_far = tally_turn (square_as a.dim) packed_matrix a.r.now.src.now a.r.now.at a.count loop.alike loop.r.at loop.counter loop.invariant.so_far (omega arith) (here ∙ sym c.in_ok-m.ensures.value) (search (rules, and_assoc));
      same_source = c.packed.ensures.same_source ∙ c.loop.invariant.same_source;
    }

pub returns-clause-value : goal.returns-clause-value
returns-clause-value c =
    let a = c.args in
    tally_end (square_as a.dim) packed_matrix a.r.now.src.now a.r.now.at a.count c.loop.alike c.loop.r.at c.loop.counter c.loop.invariant.so_far (omega arith)
