-- `model_dimensions` meets its contract: the load's judgement with lengths that are enough for every model (`dims_refused`, `dims_read` in Needed.antt).
use Rattle.std.proofs.Common.{◌≡◌, sym, ◌∙◌, rules}
use Rattle.definition.specs.Number.{number_of}
use Rattle.model.specs.Load.{files_of}
use Rattle.model.proofs.Files.{dims_are}
use Rattle.model.specs.declared.memory.DimensionsAnswer.{DimensionsAnswer}
use Rattle.model.specs.Memory.{no_dimensions}
use Rattle.model.proofs.Needed.{dims_refused, dims_read}
use Rattle.model.proofs.memory.model_dimensions.Goals as goal

pub returns-in-Err : goal.returns-in-Err
returns-in-Err c =
    let a = c.args in
    let zeros : ◌≡◌ {A = DimensionsAnswer} (record { refusal = c.number.result; dims = c.default.result.dims }) (record { refusal = number_of c.in-Err.e; dims = no_dimensions }) = search rules in
    zeros ∙ dims_refused a.opts (files_of a.gmm.now a.extractor.now a.lda.now a.cmvn.now) c.in-Err.ensures.value

pub returns-in-Ok : goal.returns-in-Ok
returns-in-Ok c =
    let a = c.args in
    let j = c.in-Ok.ensures.stands in
    dims_read a.opts (files_of a.gmm.now a.extractor.now a.lda.now a.cmvn.now) c.in-Ok.ensures.value (sym (j.dims_are ∙ dims_are j.files_in))
