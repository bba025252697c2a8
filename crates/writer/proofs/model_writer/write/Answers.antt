-- `write` meets its contract: a refusal answers its number and leaves the output, and else the three files stand at its front (Call.antt).
use borrow.Author.Rules.{rules}
use mathlib.Core.Path.{◌≡◌, refl, sym, ◌∙◌}
use lib.ListN.{length-map}
use Rattle.definition.specs.Number.{number_of}
use Rattle.writer.proofs.Chain.{first, rest}
use Rattle.writer.specs.Written as W
use Rattle.writer.specs.Lent.{params_in, written_of}
use Rattle.writer.proofs.Call.{refused_is, untouched, listed_finite, fine, offset_finite, room, files_are, out_is}
use Rattle.writer.proofs.model_writer.write.Goals as goal

pub returns-in_err-check-clause-answer : goal.returns-in_err-check-clause-answer
returns-in_err-check-clause-answer g c =
    let told : written_of c.from_residual.result ≡ W.Refused (number_of c.in_err-check.field-0.0) = search rules in
    told ∙ refused_is g.W.Real.format c.args.opts c.args.cmvn.now (params_in g.W.Real.float c.args.params.now) c.args.out.now _ c.in_err-check.ensures

pub returns-in_err-check-clause-bytes : goal.returns-in_err-check-clause-bytes
returns-in_err-check-clause-bytes g c = untouched g.W.Real.format c.args.opts c.args.cmvn.now (params_in g.W.Real.float c.args.params.now) c.args.out.now _ c.in_err-check.ensures

pub gmm-requires-clause-room : goal.gmm-requires-clause-room
gmm-requires-clause-room g c = first _ _ _ (room g.W.Real.format c.args.opts c.args.cmvn.now (params_in g.W.Real.float c.args.params.now) c.args.out.now c.in_ok-check.ensures refl refl)

pub gmm-requires-clause-weights : goal.gmm-requires-clause-weights
gmm-requires-clause-weights g c = listed_finite (fine g.W.Real.format c.args.opts c.args.cmvn.now (params_in g.W.Real.float c.args.params.now) c.args.out.now c.in_ok-check.ensures).weights

pub gmm-requires-clause-means_invvars : goal.gmm-requires-clause-means_invvars
gmm-requires-clause-means_invvars g c = listed_finite (fine g.W.Real.format c.args.opts c.args.cmvn.now (params_in g.W.Real.float c.args.params.now) c.args.out.now c.in_ok-check.ensures).means

pub gmm-requires-clause-inv_vars : goal.gmm-requires-clause-inv_vars
gmm-requires-clause-inv_vars g c = listed_finite (fine g.W.Real.format c.args.opts c.args.cmvn.now (params_in g.W.Real.float c.args.params.now) c.args.out.now c.in_ok-check.ensures).vars

pub extractor-requires-clause-feat : goal.extractor-requires-clause-feat
extractor-requires-clause-feat g c = (fine g.W.Real.format c.args.opts c.args.cmvn.now (params_in g.W.Real.float c.args.params.now) c.args.out.now c.in_ok-check.ensures).feat.high

pub extractor-requires-clause-ivector : goal.extractor-requires-clause-ivector
extractor-requires-clause-ivector g c = (fine g.W.Real.format c.args.opts c.args.cmvn.now (params_in g.W.Real.float c.args.params.now) c.args.out.now c.in_ok-check.ensures).ivector.high

pub extractor-requires-clause-m : goal.extractor-requires-clause-m
extractor-requires-clause-m g c = sym (length-map _ g.W.Real.float) ∙ (fine g.W.Real.format c.args.opts c.args.cmvn.now (params_in g.W.Real.float c.args.params.now) c.args.out.now c.in_ok-check.ensures).m.long

pub extractor-requires-clause-sigma_inv : goal.extractor-requires-clause-sigma_inv
extractor-requires-clause-sigma_inv g c = sym (length-map _ g.W.Real.float) ∙ (fine g.W.Real.format c.args.opts c.args.cmvn.now (params_in g.W.Real.float c.args.params.now) c.args.out.now c.in_ok-check.ensures).sigma.long

pub extractor-requires-clause-room : goal.extractor-requires-clause-room
extractor-requires-clause-room g c = first _ _ _ (rest _ _ (room g.W.Real.format c.args.opts c.args.cmvn.now (params_in g.W.Real.float c.args.params.now) c.args.out.now c.in_ok-check.ensures refl refl) c.gmm.ensures)

pub extractor-requires-clause-m_judged : goal.extractor-requires-clause-m_judged
extractor-requires-clause-m_judged g c = listed_finite (fine g.W.Real.format c.args.opts c.args.cmvn.now (params_in g.W.Real.float c.args.params.now) c.args.out.now c.in_ok-check.ensures).m

pub extractor-requires-clause-sigma_inv_judged : goal.extractor-requires-clause-sigma_inv_judged
extractor-requires-clause-sigma_inv_judged g c = listed_finite (fine g.W.Real.format c.args.opts c.args.cmvn.now (params_in g.W.Real.float c.args.params.now) c.args.out.now c.in_ok-check.ensures).sigma

pub extractor-requires-clause-offset_judged : goal.extractor-requires-clause-offset_judged
extractor-requires-clause-offset_judged g c = offset_finite g.W.Real.format c.args.opts c.args.cmvn.now (params_in g.W.Real.float c.args.params.now) c.args.out.now c.in_ok-check.ensures

pub lda-requires-clause-judged : goal.lda-requires-clause-judged
lda-requires-clause-judged g c = listed_finite (fine g.W.Real.format c.args.opts c.args.cmvn.now (params_in g.W.Real.float c.args.params.now) c.args.out.now c.in_ok-check.ensures).lda

pub lda-requires-clause-room : goal.lda-requires-clause-room
lda-requires-clause-room g c = rest _ _ (rest _ _ (room g.W.Real.format c.args.opts c.args.cmvn.now (params_in g.W.Real.float c.args.params.now) c.args.out.now c.in_ok-check.ensures refl refl) c.gmm.ensures) c.extractor.ensures

pub returns-clause-answer : goal.returns-clause-answer
returns-clause-answer g c = files_are g.W.Real.format c.args.opts c.args.cmvn.now (params_in g.W.Real.float c.args.params.now) c.args.out.now c.in_ok-check.ensures refl c.gmm.ensures c.extractor.ensures c.lda.ensures

pub returns-clause-bytes : goal.returns-clause-bytes
returns-clause-bytes g c =
    let written_so = out_is g.W.Real.format c.args.opts c.args.cmvn.now (params_in g.W.Real.float c.args.params.now) c.args.out.now c.in_ok-check.ensures refl c.gmm.ensures c.extractor.ensures c.lda.ensures refl in
    search (rules, written_so, c.lda.ensures.same_out, c.extractor.ensures.same_out, c.gmm.ensures.same_out)
