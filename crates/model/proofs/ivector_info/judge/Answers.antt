-- `judge` meets its contract: the options and the files are told by their calls; behind them the definition tests the dimensions of what was read (Files.antt),
-- and each way out is a case of its `load` (Judging.antt).
use Rattle.std.proofs.Common.{◌≡◌, true, [], ap, sym, ◌∙◌, arith, rules}
use Rattle.definition.specs.Number.{number_of}
use Rattle.definition.specs.Options.{options_in_range}
use Rattle.definition.specs.Reader.{need, refused}
use Rattle.kaldi.specs.Inner.KaldiIoGot.{parsed}
use Rattle.kaldi.proofs.TextRuns.{passed}
use Rattle.model.specs.Load.{files_of}
use Rattle.model.specs.Inner.IvectorInfo.{judged_in}
use Rattle.model.proofs.Files.{agree_same, room_same, range_is}
use Rattle.model.proofs.Judging.{apart, short, taken, judged_known}
use Rattle.model.proofs.ivector_info.judge.Goals.{In_ok-need}
use Rattle.model.proofs.ivector_info.judge.Goals as goal

options : (c : In_ok-need) → options_in_range c.args.opts ≡ true
options c = sym c.options_in_range.ensures ∙ passed _ 1 (omega arith) c.in_ok-need.ensures

pub need_agreeing-requires-clause-dims_in : goal.need_agreeing-requires-clause-dims_in
need_agreeing-requires-clause-dims_in c = range_is c.in_ok-files.ensures.stands c.dims-dims.ensures

pub need_room-requires-clause-dims_in : goal.need_room-requires-clause-dims_in
need_room-requires-clause-dims_in c = range_is c.in_ok-files.ensures.stands c.dims-dims.ensures

pub returns-in_err-need_agreeing-clause-value : goal.returns-in_err-need_agreeing-clause-value
returns-in_err-need_agreeing-clause-value c =
    let a = c.args in
    let f = files_of a.gmm.now a.extractor.now a.lda.now a.cmvn.now in
    let read = c.in_ok-files.ensures.value in
    let agree = ap (λ b. need b 5 [] 0) (agree_same c.in_ok-files.ensures.stands c.dims-dims.ensures a.opts) in
    let none : parsed (judged_in a.opts a.cmvn.now a.z) c.from_residual-in_err-need_agreeing.result 0 ≡ refused (number_of c.in_err-need_agreeing.field-0.0) = search rules in
    none ∙ apart a.opts a.z a.scratch f (options (goal.at.returns-in_err-need_agreeing-clause-value c).In_ok-need) read (c.in_err-need_agreeing.ensures [] 0 ∙ agree)

pub returns-in_err-need_room-clause-value : goal.returns-in_err-need_room-clause-value
returns-in_err-need_room-clause-value c =
    let a = c.args in
    let f = files_of a.gmm.now a.extractor.now a.lda.now a.cmvn.now in
    let read = c.in_ok-files.ensures.value in
    let agree = ap (λ b. need b 5 [] 0) (agree_same c.in_ok-files.ensures.stands c.dims-dims.ensures a.opts) in
    let room = ap (λ b. need b 8 [] 0) (room_same c.in_ok-files.ensures.stands c.dims-dims.ensures a.opts a.z a.scratch) in
    let none : parsed (judged_in a.opts a.cmvn.now a.z) c.from_residual-in_err-need_room.result 0 ≡ refused (number_of c.in_err-need_room.field-0.0) = search rules in
    none ∙ short a.opts a.z a.scratch f (options (goal.at.returns-in_err-need_room-clause-value c).In_ok-need) read (c.in_ok-need_agreeing.ensures [] 0 ∙ agree) (c.in_err-need_room.ensures [] 0 ∙ room)

pub returns-clause-value : goal.returns-clause-value
returns-clause-value c =
    let a = c.args in
    let f = files_of a.gmm.now a.extractor.now a.lda.now a.cmvn.now in
    let read = c.in_ok-files.ensures.value in
    let agree = ap (λ b. need b 5 [] 0) (agree_same c.in_ok-files.ensures.stands c.dims-dims.ensures a.opts) in
    let room = ap (λ b. need b 8 [] 0) (room_same c.in_ok-files.ensures.stands c.dims-dims.ensures a.opts a.z a.scratch) in
    taken a.opts a.z a.scratch f (options (goal.at.returns-clause-value c).In_ok-need) read (c.in_ok-need_agreeing.ensures [] 0 ∙ agree) (c.in_ok-need_room.ensures [] 0 ∙ room)

pub returns-clause-stands : goal.returns-clause-stands
returns-clause-stands c =
    let a = c.args in
    judged_known a.opts a.cmvn.now a.z a.scratch _ _ (options (goal.at.returns-clause-stands c).In_ok-need) c.in_ok-files.ensures.stands c.dims-dims.ensures (c.in_ok-need_agreeing.ensures [] 0) (c.in_ok-need_room.ensures [] 0)
