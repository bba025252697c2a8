-- What each file's parser makes of the file's bytes: the first of its items' tests that holds refuses them, else the contents are the parameters' (laws in
-- Reading.antt). The sizes may be anything that four bytes hold, the numbers any of the width.
use mathlib.Core.Path.{◌≡◌, refl, sym, ap, ◌∙◌}
use mathlib.Core.Bool.{Bool, true, false, not, ◌&&◌}
use mathlib.Core.List.{List, [], ◌∷◌, ◌++◌, map, append_assoc, append-nil, map-id}
use Prim.Native.Nat.{ℕ, zero, suc, ◌*◌, ◌<◌, ◌≤◌}
use borrow.Author.Tests.{eq-eqb, not-false, leb-true}
use lib.Dec.{eqb}
use lib.ListN.{length, length-map}
use lib.Ieee.{Float, Format, binary32, binary64, fits}
use lib.Ieee.Scale.{finite}
use Rattle.std.specs.Prelude.{if◌then◌else◌}
use Rattle.loops.specs.Lists.{flat, build, all_of}
use Rattle.loops.specs.Refusal.{first_of}
use Rattle.loops.proofs.Choose.{and_both, and_holds, by-test}
use Rattle.loops.proofs.Build.{at_build}
use Rattle.loops.proofs.Refusal.{first-here, first_past}
use Rattle.definition.specs.Options.{within, max_gauss, max_feat, max_ivector, max_columns}
use Rattle.floats.specs.Real.{byte_width, kept_as}
use Rattle.definition.specs.Reader.{Parser, ◌>>=◌, ◌>>◌, give, need, times, text, same, kept}
use Rattle.definition.specs.Kaldi.{blank, token, dim, matrix_tag, skipped, Matrix, matrix, triangle, Packed, packed_matrix, Gmm, weights_heading, gmm, Extractor, rowless, extractor_heading, single, matrix_at, alike, extractor, lda}
use Rattle.definition.specs.Model.{Contents}
use Rattle.writer.specs.Written.{numbers_bytes, size_bytes, mark, token_bytes, vector_bytes, matrix_bytes, packed_bytes, Params, part, gmm_bytes, extractor_bytes, lda_bytes, outside}
use Rattle.writer.specs.Theorems.{contents_of}
use Rattle.writer.proofs.Fitting.{Fitting}
use Rattle.writer.proofs.Shapes.{fit-part, long-part, all_parts}
use Rattle.writer.proofs.Reading.{Judges, Reads, reads_need, reads_give, reads_then, reads_as, reads_value, reads_word, reads_token, reads_mark, reads_zero, matrix-told, reads_width, reads_skipped, spoilt, Wide}
use Rattle.writer.proofs.Reading.{judges_then, judges_end, judges_as, judges_none, judges_past, judges_times, judges_first, judges_dim, judges_vector, judges_matrix, judges_packed, judges_single}

-- one parser after another, where the first gives nothing
pub seq : {A B : Type 0} {p : Parser A} {q : Parser B} {x y : List ℕ} {r : ℕ} {a : A} {b : B} → Reads p x a → Judges q y r b → Judges (p >> q) (x ++ y) r b
seq {q = q} g h = reads_then (λ _. q) g h

-- ---- the GMM

abbrev gmm_end : List Float → Matrix → Matrix → Parser Gmm
gmm_end w m v = need (eqb m.rows v.rows && (eqb m.cols v.cols && eqb (length w) m.rows)) 5 >> give (record { weights = w; means_invvars = m; inv_vars = v })

abbrev gmm-vars : List Float → Matrix → Parser Gmm
gmm-vars w m = token (text "<INV_VARS>") >> (matrix binary32 true max_gauss max_feat >>= gmm_end w m)

abbrev gmm-means : List Float → Parser Gmm
gmm-means w = token (text "<MEANS_INVVARS>") >> (matrix binary32 false max_gauss max_feat >>= gmm-vars w)

gmm-parts : (a b c d e g h i j k l : List ℕ) → a ++ (b ++ (c ++ (d ++ (e ++ (g ++ (h ++ (i ++ (j ++ (k ++ l)))))))))
    ≡ (a ++ (b ++ ((c ++ (d ++ e)) ++ (g ++ (h ++ (i ++ (j ++ k))))))) ++ l
gmm-parts a b c d e g h i j k l = simp append_assoc

-- ---- the extractor

abbrev ext_end : ℕ → List Matrix → List Packed → Float → Parser Extractor
ext_end n ms vs x =
    token (text "</IvectorExtractor>") >> (need (alike ms vs) 5 >> give (record { num_gauss = n; feat_dim = (matrix_at ms 0).rows; ivector_dim = (matrix_at ms 0).cols; m = ms; sigma_inv = vs; prior_offset = x }))

abbrev ext_offset : ℕ → List Matrix → List Packed → Parser Extractor
ext_offset n ms vs = token (text "<IvectorOffset>") >> (single >>= ext_end n ms vs)

abbrev ext_sigma : ℕ → List Matrix → Parser Extractor
ext_sigma n ms = token (text "<SigmaInv>") >> (times n packed_matrix >>= ext_offset n ms)

abbrev ext_m : ℕ → Parser Extractor
ext_m n = times n (matrix binary64 false max_feat max_ivector) >>= ext_sigma n

ext_parts : (a b c d e g h i j k l m n o : List ℕ) → a ++ (b ++ (c ++ (d ++ (e ++ (g ++ (h ++ (i ++ (j ++ (k ++ (l ++ (m ++ (n ++ o))))))))))))
    ≡ (a ++ (b ++ (c ++ (d ++ (e ++ (g ++ h)))))) ++ (i ++ (j ++ (k ++ (l ++ (m ++ (n ++ o))))))
ext_parts a b c d e g h i j k l m n o = simp append_assoc

-- all of a list made by index
all_build : {A : Type 0} (p : A → Bool) (n : ℕ) (X : ℕ → A) → ((i : ℕ) → p (X i) ≡ true) → all_of p (build n X) ≡ true
unfolding all_of build
all_build p zero X h = refl
all_build p (suc n) X h = and_both (p (X 0)) _ (h 0) (all_build p n (λ k. X (suc k)) (λ i. h (suc i)))

module _ (f : Format) (p : Params) (a : Fitting f p) (row : List Float) where
  abbrev g : ℕ
  g = p.sizes.num_gauss

  abbrev e : ℕ
  e = p.sizes.ext_gauss

  abbrev d : ℕ
  d = p.sizes.feat_dim

  abbrev s : ℕ
  s = p.sizes.ivector_dim

  abbrev c : ℕ
  c = p.sizes.lda_cols

  abbrev pub C : Contents
  C = contents_of f p row

  -- ---- the GMM

  heading : Reads weights_heading (token_bytes "<GCONSTS>" ++ (vector_bytes f 0 [] ++ token_bytes "<WEIGHTS>")) tt
  unfolding weights_heading all_of blank
  heading =
      reads_then (λ w. if same w (text "<GCONSTS>") then (skipped >> token (text "<WEIGHTS>")) else need (same w (text "<WEIGHTS>")) 3) (reads_word (text "<GCONSTS>") refl)
      (seq (reads_skipped f) (reads_token (text "<WEIGHTS>") refl))

  -- all of it but its last token, which a load does not look at
  abbrev pub gmm_front : List ℕ
  gmm_front =
      mark ++ (token_bytes "<DiagGMM>" ++ ((token_bytes "<GCONSTS>" ++ (vector_bytes f 0 [] ++ token_bytes "<WEIGHTS>")) ++ (vector_bytes f g p.weights
      ++ (token_bytes "<MEANS_INVVARS>" ++ (matrix_bytes f g d p.means_invvars ++ (token_bytes "<INV_VARS>" ++ matrix_bytes f g d p.inv_vars))))))

  pub gmm_bytes_is : gmm_bytes f p
      ≡ gmm_front ++ token_bytes "</DiagGMM>"
  unfolding gmm_bytes
  gmm_bytes_is =
      gmm-parts mark (token_bytes "<DiagGMM>") (token_bytes "<GCONSTS>") (vector_bytes f 0 []) (token_bytes "<WEIGHTS>") (vector_bytes f g p.weights) (token_bytes "<MEANS_INVVARS>")
      (matrix_bytes f g d p.means_invvars) (token_bytes "<INV_VARS>") (matrix_bytes f g d p.inv_vars) (token_bytes "</DiagGMM>")

  gmm_agrees : (eqb g g && (eqb d d && eqb (length (map (kept_as binary32 f) p.weights)) g)) ≡ true
  gmm_agrees =
      and_both _ _ (eq-eqb g g refl) (and_both _ _ (eq-eqb d d refl) (eq-eqb _ _ (length-map p.weights (kept_as binary32 f) ∙ a.weights.long)))

  abbrev weights_spoilt : Bool × ℕ
  weights_spoilt = spoilt binary32 f true p.weights

  abbrev means_spoilt : Bool × ℕ
  means_spoilt = spoilt binary32 f false p.means_invvars

  abbrev vars_spoilt : Bool × ℕ
  vars_spoilt = spoilt binary32 f true p.inv_vars

  abbrev pub gmm_tests : List (Bool × ℕ)
  gmm_tests = outside max_gauss g ∷ weights_spoilt ∷ outside max_feat d ∷ means_spoilt ∷ vars_spoilt ∷ []

  judges_vars : not (within 1 max_gauss g) ≡ false → not (within 1 max_feat d) ≡ false → Judges (gmm-vars C.gmm.weights C.gmm.means_invvars) (token_bytes "<INV_VARS>" ++ matrix_bytes f g d p.inv_vars) (first_of (vars_spoilt ∷ [])) C.gmm
  unfolding all_of blank
  judges_vars h k =
      seq (reads_token (text "<INV_VARS>") refl)
      (judges_end (gmm_end C.gmm.weights C.gmm.means_invvars) (vars_spoilt ∷ []) [] tt
      (judges_past (outside max_feat d) (vars_spoilt ∷ []) k (judges_past (outside max_gauss g) (outside max_feat d ∷ vars_spoilt ∷ []) h
      (judges_matrix binary32 f true max_gauss max_feat g d p.inv_vars a.gauss a.feat a.vars)))
      (λ _. judges_none (seq {x = []} (reads_need _ 5 gmm_agrees) (reads_give _))))

  judges_means : not (within 1 max_gauss g) ≡ false
      → Judges (gmm-means C.gmm.weights) (token_bytes "<MEANS_INVVARS>" ++ (matrix_bytes f g d p.means_invvars ++ (token_bytes "<INV_VARS>" ++ matrix_bytes f g d p.inv_vars)))
      (first_of (outside max_feat d ∷ means_spoilt ∷ vars_spoilt ∷ [])) C.gmm
  unfolding all_of blank
  judges_means h =
      seq (reads_token (text "<MEANS_INVVARS>") refl)
      (judges_then (gmm-vars C.gmm.weights) (outside max_feat d ∷ means_spoilt ∷ []) (vars_spoilt ∷ []) tt
      (judges_past (outside max_gauss g) (outside max_feat d ∷ means_spoilt ∷ []) h
      (judges_matrix binary32 f false max_gauss max_feat g d p.means_invvars a.gauss a.feat a.means))
      (λ n. judges_vars h n.0))

  pub judges_front : Judges gmm gmm_front (first_of gmm_tests) C.gmm
  unfolding gmm all_of blank
  judges_front =
      seq reads_mark (seq (reads_token (text "<DiagGMM>") refl) (seq heading
      (judges_then gmm-means (outside max_gauss g ∷ weights_spoilt ∷ []) (outside max_feat d ∷ means_spoilt ∷ vars_spoilt ∷ []) tt
      (judges_vector binary32 f true max_gauss g p.weights a.gauss a.weights) (λ n. judges_means n.0))))

  -- ---- the extractor

  no_rows : Reads rowless (matrix_bytes f 0 0 []) tt
  unfolding rowless numbers_bytes
  no_rows =
      reads_then (λ w. dim 0 1_000_000 >>= (λ r. dim 0 1_000_000 >>= (λ c. need (eqb r 0) 5))) (reads_width matrix_tag matrix-told f)
      (reads_then (λ r. dim 0 1_000_000 >>= (λ c. need (eqb r 0) 5)) reads_zero
      (reads_then (λ c. need (eqb 0 0) 5) reads_zero (reads_need true 5 refl)))

  abbrev ext_front : List ℕ
  ext_front = mark ++ (token_bytes "<IvectorExtractor>" ++ (token_bytes "<w>" ++ (matrix_bytes f 0 0 [] ++ (token_bytes "<w_vec>" ++ (vector_bytes f 0 [] ++ token_bytes "<M>")))))

  ext_heading : Reads extractor_heading ext_front tt
  unfolding extractor_heading all_of blank
  ext_heading =
      seq reads_mark (seq (reads_token (text "<IvectorExtractor>") refl) (seq (reads_token (text "<w>") refl) (seq no_rows (seq (reads_token (text "<w_vec>") refl)
      (seq (reads_skipped f) (reads_token (text "<M>") refl))))))

  abbrev m_bytes : ℕ → List ℕ
  m_bytes i = matrix_bytes f d s (part (d * s) i p.m)

  abbrev sigma_bytes : ℕ → List ℕ
  sigma_bytes i = packed_bytes f d (part (triangle d) i p.sigma_inv)

  abbrev offset_bytes : List ℕ
  offset_bytes = byte_width f ∷ numbers_bytes f (p.prior_offset ∷ [])

  abbrev m_spoilt : Bool × ℕ
  m_spoilt = spoilt binary64 f false p.m

  abbrev sigma_spoilt : Bool × ℕ
  sigma_spoilt = spoilt binary64 f false p.sigma_inv

  abbrev offset_spoilt : Bool × ℕ
  offset_spoilt = spoilt binary64 f false (p.prior_offset ∷ [])

  -- a part is as long, and of the width
  part_of : {w n : ℕ} {xs : List Float} (i : ℕ) → Wide binary64 f false (n * w) xs → i < n → Wide binary64 f false w (part w i xs)
  part_of {w} {n} {xs} i h l = record { long = long-part w n i xs h.long l; fit = fit-part (fits f) w i xs h.fit }

  -- one matrix, of rows that are in range
  one_m : not (within 1 max_feat d) ≡ false → (i : ℕ) → i < e
      → Judges (matrix binary64 false max_feat max_ivector) (m_bytes i) (first_of (outside max_ivector s ∷ spoilt binary64 f false (part (d * s) i p.m) ∷ [])) (record { rows = d; cols = s; nums = part (d * s) i p.m })
  one_m h i l =
      judges_past (outside max_feat d) (outside max_ivector s ∷ spoilt binary64 f false (part (d * s) i p.m) ∷ []) h
      (reads_value (ap (λ (xs : List Float). record { rows = d; cols = s; nums = xs }) (map-id (part (d * s) i p.m)))
      (judges_matrix binary64 f false max_feat max_ivector d s (part (d * s) i p.m) a.feat a.ivector (part_of {n = e} i a.m l)))

  judges_m : not (within 1 max_feat d) ≡ false → 1 ≤ e → Judges (times e (matrix binary64 false max_feat max_ivector)) (flat e m_bytes) (first_of (outside max_ivector s ∷ m_spoilt ∷ [])) C.extractor.m
  judges_m h some = by-test (not (within 1 max_ivector s)) bad fine
    where
      -- the first one is refused
      bad : not (within 1 max_ivector s) ≡ true → Judges (times e (matrix binary64 false max_feat max_ivector)) (flat e m_bytes) (first_of (outside max_ivector s ∷ m_spoilt ∷ [])) C.extractor.m
      bad k =
          judges_as (sym (first-here (outside max_ivector s) (m_spoilt ∷ []) k))
          (judges_first e 3 (matrix binary64 false max_feat max_ivector) m_bytes (record { rows = d; cols = s; nums = part (d * s) 0 p.m }) C.extractor.m some
          (judges_as (first-here (outside max_ivector s) (spoilt binary64 f false (part (d * s) 0 p.m) ∷ []) k) (one_m h 0 some)))

      fine : not (within 1 max_ivector s) ≡ false → Judges (times e (matrix binary64 false max_feat max_ivector)) (flat e m_bytes) (first_of (outside max_ivector s ∷ m_spoilt ∷ [])) C.extractor.m
      fine k =
          judges_as (ap (λ (b : Bool). first_of ((not b, 6) ∷ [])) (all_parts (λ x. kept false (kept_as binary64 f x)) (d * s) e p.m a.m.long) ∙ sym (first_past (outside max_ivector s) (m_spoilt ∷ []) k))
          (judges_times e 5 (matrix binary64 false max_feat max_ivector) m_bytes (λ i. record { rows = d; cols = s; nums = part (d * s) i p.m })
          (λ i. all_of (λ x. kept false (kept_as binary64 f x)) (part (d * s) i p.m))
          (λ i l. judges_past (outside max_ivector s) (spoilt binary64 f false (part (d * s) i p.m) ∷ []) k (one_m h i l)))

  judges_sigma : not (within 1 max_feat d) ≡ false → Judges (times e packed_matrix) (flat e sigma_bytes) (first_of (sigma_spoilt ∷ [])) C.extractor.sigma_inv
  judges_sigma h =
      judges_as (ap (λ (b : Bool). first_of ((not b, 6) ∷ [])) (all_parts (λ x. kept false (kept_as binary64 f x)) (triangle d) e p.sigma_inv a.sigma.long))
      (judges_times e 5 packed_matrix sigma_bytes (λ i. record { rows = d; nums = part (triangle d) i p.sigma_inv })
      (λ i. all_of (λ x. kept false (kept_as binary64 f x)) (part (triangle d) i p.sigma_inv))
      (λ i l. judges_past (outside max_feat d) (spoilt binary64 f false (part (triangle d) i p.sigma_inv) ∷ []) h
      (judges_packed f d (part (triangle d) i p.sigma_inv) a.feat (part_of {n = e} i a.sigma l))))

  first_m : 1 ≤ e → matrix_at C.extractor.m 0 ≡ record { rows = d; cols = s; nums = part (d * s) 0 p.m }
  first_m h = at_build _ e _ 0 h

  all_alike : 1 ≤ e → alike C.extractor.m C.extractor.sigma_inv ≡ true
  unfolding alike
  all_alike h =
      let r : (matrix_at C.extractor.m 0).rows ≡ d = ap (λ (x : Matrix). x.rows) (first_m h) in
      let k : (matrix_at C.extractor.m 0).cols ≡ s = ap (λ (x : Matrix). x.cols) (first_m h) in
      and_both _ _ (all_build _ e _ (λ i. and_both _ _ (eq-eqb _ _ (sym r)) (eq-eqb _ _ (sym k)))) (all_build _ e _ (λ i. eq-eqb _ _ (sym r)))

  -- the record that the parser gives has the dimensions of the first matrix
  abbrev ext_with : ℕ → ℕ → Float → Extractor
  ext_with r k x = record { num_gauss = e; feat_dim = r; ivector_dim = k; m = C.extractor.m; sigma_inv = C.extractor.sigma_inv; prior_offset = x }

  ext_is : 1 ≤ e → (x : Float) → ext_with (matrix_at C.extractor.m 0).rows (matrix_at C.extractor.m 0).cols x ≡ ext_with d s x
  ext_is h x = ap (λ (y : Matrix). ext_with y.rows y.cols x) (first_m h)

  ext_bytes : extractor_bytes f p
      ≡ ext_front ++ (size_bytes e ++ (flat e m_bytes ++ (token_bytes "<SigmaInv>" ++ (flat e sigma_bytes ++ (token_bytes "<IvectorOffset>" ++ (offset_bytes ++ token_bytes "</IvectorExtractor>"))))))
  unfolding extractor_bytes
  ext_bytes =
      ext_parts mark (token_bytes "<IvectorExtractor>") (token_bytes "<w>") (matrix_bytes f 0 0 []) (token_bytes "<w_vec>") (vector_bytes f 0 []) (token_bytes "<M>") (size_bytes e) (flat e m_bytes)
      (token_bytes "<SigmaInv>") (flat e sigma_bytes) (token_bytes "<IvectorOffset>") offset_bytes (token_bytes "</IvectorExtractor>")

  abbrev pub extractor_tests : List (Bool × ℕ)
  extractor_tests = outside max_gauss e ∷ outside max_ivector s ∷ m_spoilt ∷ sigma_spoilt ∷ offset_spoilt ∷ []

  -- the offset, whose one number is the whole list
  judges_offset : Judges single offset_bytes (first_of (offset_spoilt ∷ [])) p.prior_offset
  unfolding all_of kept
  judges_offset =
      judges_as (ap (λ (b : Bool). first_of ((not b, 6) ∷ [])) (alone (finite p.prior_offset))) (judges_single f p.prior_offset a.offset)
    where
      alone : (b : Bool) → b ≡ (b && true)
      alone true = refl
      alone false = refl

  judges_last : 1 ≤ e → Judges (ext_offset e C.extractor.m C.extractor.sigma_inv) (token_bytes "<IvectorOffset>" ++ (offset_bytes ++ token_bytes "</IvectorExtractor>")) (first_of (offset_spoilt ∷ [])) C.extractor
  unfolding all_of blank
  judges_last h =
      seq (reads_token (text "<IvectorOffset>") refl) (judges_then (ext_end e C.extractor.m C.extractor.sigma_inv) (offset_spoilt ∷ []) [] tt judges_offset
      (λ _. judges_none (reads_as (append-nil (token_bytes "</IvectorExtractor>")) (seq (reads_token (text "</IvectorExtractor>") refl)
      (seq {x = []} (reads_need _ 5 (all_alike h)) (reads_value (ext_is h p.prior_offset) (reads_give _)))))))

  pub judges_extractor : not (within 1 max_feat d) ≡ false → Judges extractor (extractor_bytes f p) (first_of extractor_tests) C.extractor
  unfolding extractor all_of blank
  judges_extractor h =
      reads_as (sym ext_bytes)
      (seq ext_heading (judges_then ext_m (outside max_gauss e ∷ []) (outside max_ivector s ∷ m_spoilt ∷ sigma_spoilt ∷ offset_spoilt ∷ []) tt (judges_dim max_gauss e a.ext)
      (λ n. let some : 1 ≤ e = leb-true 1 e (and_holds _ _ (not-false _ n.0)).0 in
      judges_then (ext_sigma e) (outside max_ivector s ∷ m_spoilt ∷ []) (sigma_spoilt ∷ offset_spoilt ∷ []) tt (judges_m h some)
      (λ _. seq (reads_token (text "<SigmaInv>") refl) (judges_then (ext_offset e C.extractor.m) (sigma_spoilt ∷ []) (offset_spoilt ∷ []) tt (judges_sigma h) (λ _. judges_last some))))))

  -- ---- the LDA

  abbrev lda_spoilt : Bool × ℕ
  lda_spoilt = spoilt binary32 f false p.lda

  abbrev pub lda_tests : List (Bool × ℕ)
  lda_tests = outside max_columns c ∷ lda_spoilt ∷ []

  pub judges_lda : not (within 1 max_feat d) ≡ false → Judges lda (lda_bytes f p) (first_of lda_tests) C.lda
  unfolding lda lda_bytes
  judges_lda h =
      seq reads_mark (judges_past (outside max_feat d) lda_tests h (judges_matrix binary32 f false max_feat max_columns d c p.lda a.feat a.columns a.lda))
