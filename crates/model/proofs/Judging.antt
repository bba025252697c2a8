-- Each way out of the judgement, and what it says of the load: the files are read first, then judged together.
use mathlib.Core.Path.{◌≡◌, refl, sym, ap, ◌∙◌}
use mathlib.Core.Bool.{true, ◌&&◌}
use mathlib.Core.List.{List, []}
use mathlib.Core.Logic.{⊎_elim}
use Prim.Native.Nat.{ℕ, ◌+◌}
use native.Mathlib.Omega.{arith}
use lib.Dec.{leb}
use borrow.Author.Tests.{eqb-true, leb-true}
use Rattle.loops.proofs.Choose.{and_holds}
use Rattle.loops.proofs.Tests.{each_of}
use Rattle.definition.specs.declared.IvectorOptions.{IvectorOptions}
use Rattle.definition.specs.declared.Dimensions.{Dimensions}
use Rattle.definition.specs.declared.TableLengths.{TableLengths}
use Rattle.definition.specs.Options.{options_in_range, spliced}
use Rattle.definition.specs.Reader.{Got, read, refused, need}
use Rattle.definition.specs.Model as M
use Rattle.definition.specs.Model.{Files, Model, dims_of, contents_agree, model_of, tables_fit, load_scratch, judged, loading, load}
use Rattle.definition.proofs.Ranges as R
use Rattle.kaldi.proofs.Chain.{goes, stops, met}
use Rattle.kaldi.proofs.ExtractorRead.{need_met}
use Rattle.model.specs.declared.ivector_info.Contents.{Contents}
use Rattle.model.specs.Inner.IvectorInfo.{contents, ContentsIn, dims_in, agreeing, JudgedIn}

module _ (o : IvectorOptions) (z : TableLengths) (n : ℕ) (f : Files) (options_in : options_in_range o ≡ true) {c : M.Contents} (h : read c 0 ≡ contents f) where
  past_files : {x : Got Model} → x ≡ judged o z n c [] 0 → x ≡ load o f z n
  unfolding load loading contents
  past_files t = goes _ [] (sym (met 1 [] 0 options_in)) (goes (judged o z n) [] (sym h) t)

  pub apart : {k : ℕ} → refused k ≡ need (contents_agree o c) 5 [] 0 → refused k ≡ load o f z n
  unfolding judged
  apart e = past_files (stops _ [] (sym e) refl)

  module _ (a : read tt 0 ≡ need (contents_agree o c) 5 [] 0) where
    pub short : {k : ℕ} → refused k ≡ need (tables_fit o (dims_of c) z && leb (load_scratch (dims_of c)) n) 8 [] 0 → refused k ≡ load o f z n
    unfolding judged
    short e = past_files (goes _ [] (sym a) (stops _ [] (sym e) refl))

    pub taken : read tt 0 ≡ need (tables_fit o (dims_of c) z && leb (load_scratch (dims_of c)) n) 8 [] 0 → read (model_of o c z) 0 ≡ load o f z n
    unfolding judged
    taken e = past_files (goes _ [] (sym a) (goes _ [] (sym e) refl))

-- what is known behind the tests
pub judged_known : (o : IvectorOptions) (text : List ℕ) (z : TableLengths) (n : ℕ) (d : Dimensions) (c : Contents) → options_in_range o ≡ true → ContentsIn text c → d ≡ dims_in c
    → read tt 0 ≡ need (agreeing o d c) 5 [] 0 → read tt 0 ≡ need (tables_fit o d z && leb (load_scratch d) n) 8 [] 0
    → JudgedIn o text z n (record { dims = d; files = c })
judged_known o text z n d c options x e agree room =
    let a = each_of (λ t. t) _ (need_met (agreeing o d c) 5 [] 0 agree) in
    let r = and_holds (tables_fit o d z) (leb (load_scratch d) n) (need_met _ 8 [] 0 room) in
    let feat : d.feat_dim ≡ c.extractor.feat_dim = ap (λ (k : Dimensions). k.feat_dim) e in
    record {
      files_in = x;
      dims_are = e;
      options_in = options;
      spliced_in = ⊎_elim (λ (e : d.lda_cols ≡ spliced o d). omega arith) (λ (e : d.lda_cols ≡ spliced o d + 1). omega arith) (R.agreeing o d a.0).columns_are;
      lda_rows_are = eqb-true _ _ a.1.0 ∙ sym feat;
      gmm_cols_are = eqb-true _ _ a.1.1.0 ∙ sym feat;
      tables_fit_is = r.0;
      scratch_fits = leb-true _ _ r.1;
    }
