-- `check_files` meets its contract: what a fill has to know of the files is what each check ensures.
use Rattle.std.proofs.Common.{ap, sym, subst, ◌∙◌}
use Rattle.kaldi.specs.Inner.KaldiFilesAnswers.{ExtractorIn}
use Rattle.model.proofs.ivector_info.check_files.Goals as goal

pub returns-clause-stands : goal.returns-clause-stands
returns-clause-stands c =
    let e = c.in_ok-extractor.extractor in
    let x = c.in_ok-extractor.ensures in
    record {
      extractor_stands = subst (λ b. ExtractorIn b.now e.num_gauss e.feat_dim e.ivector_dim e.m.at e.sigma_inv.at) (sym x.m_source) x.stands;
      one_source = ap (λ b. b.now) (x.sigma_source ∙ sym x.m_source);
      lda_rows = c.in_ok-lda.ensures.rows.1;
      lda_low = c.in_ok-lda.ensures.cols.0;
      lda_high = c.in_ok-lda.ensures.cols.1;
      row_in = c.in_ok-row.ensures.cmvn_in;
    }
