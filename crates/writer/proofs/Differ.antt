-- `differ`: two accepted sets that are written as the same bytes are the same. The bytes are taken apart from the front: what stands before a list is the same in
-- both, the sizes are told by their bytes, and sizes tell how many numbers follow (laws in Shapes.antt).
use mathlib.Core.Path.{◌≡◌, refl, sym, ap, ◌∙◌}
use mathlib.Core.Bool.{Bool, true}
use mathlib.Core.List.{List, [], ◌∷◌, ◌++◌, append_assoc, append-nil}
use Prim.Native.Nat.{ℕ, zero, suc, ◌*◌, ◌<◌}
use native.Mathlib.Omega.{arith}
use lib.ListN.{length, get_or}
use lib.Ieee.{Float, nan, Format, fits}
use Rattle.loops.specs.Lists.{flat, all_of}
use Rattle.loops.proofs.Choose.{and_both}
use Rattle.loops.proofs.Flat.{flat_ext}
use Rattle.loops.proofs.Tests.{each_of}
use Rattle.definition.specs.declared.IvectorOptions.{IvectorOptions}
use Rattle.definition.specs.Kaldi.{matrix_tag, packed_tag, triangle}
use Rattle.writer.specs.declared.model_bytes.ModelSizes.{ModelSizes}
use Rattle.writer.specs.Written.{size_bytes, numbers_bytes, ended, token_bytes, line_bytes, table_bytes, matrix_bytes, packed_bytes, Params, params_from, part, gmm_bytes, extractor_bytes, lda_bytes, model_bytes}
use Rattle.writer.specs.Theorems.{of_width, Accepted, Differ}
use Rattle.writer.proofs.Encoding.{past, size-apart, numbers_apart}
use Rattle.writer.specs.Pieces.{weights_head, means_head, vars_head, m_head, offset_head, lda_head, m_blocks, sigma_blocks}
use Rattle.writer.proofs.Shapes.{gmm_is, extractor_is, lda_is, parts_whole, fit-part, long-part, Fit, line_apart, table_apart}
use Rattle.writer.proofs.Sound.{Sound, sound}
use Rattle.writer.proofs.Refuses.{accepted_taken}

-- ---- one block for each Gaussian

-- blocks of which each comes apart
blocks_apart : (n : ℕ) (B C : ℕ → List ℕ) (P : ℕ → Type 0) (s t : List ℕ) → ((i : ℕ) → i < n → (u v : List ℕ) → B i ++ u ≡ C i ++ v → P i × (u ≡ v))
    → flat n B ++ s ≡ flat n C ++ t → ((i : ℕ) → i < n → P i) × (s ≡ t)
unfolding flat
blocks_apart zero B C P s t each e = (λ i h. absurd (omega arith), e)
blocks_apart (suc n) B C P s t each e =
    let h = each 0 (omega arith) _ _ (sym (append_assoc (B 0) (flat n (λ k. B (suc k))) s) ∙ e ∙ append_assoc (C 0) (flat n (λ k. C (suc k))) t) in
    let k = blocks_apart n (λ i. B (suc i)) (λ i. C (suc i)) (λ i. P (suc i)) s t (λ i l. each (suc i) (omega arith)) h.1 in
    (first h.0 k.0, k.1)
  where
    first : P 0 → ((i : ℕ) → i < n → P (suc i)) → (i : ℕ) → i < suc n → P i
    first a b zero l = a
    first a b (suc i) l = b i (omega arith)

-- ---- the theorem

times : {a b c d : ℕ} → a ≡ c → b ≡ d → a * b ≡ c * d
times e h = rw (e, h)

regroup_four : (a b c d u : List ℕ) → (a ++ (b ++ (c ++ d))) ++ u ≡ a ++ (b ++ (c ++ (d ++ u)))
regroup_four a b c d u = simp append_assoc

regroup_eight : (h k a b c d n l u : List ℕ) → ((h ++ k) ++ (a ++ (b ++ (c ++ (d ++ (n ++ l)))))) ++ u ≡ h ++ (k ++ (a ++ (b ++ (c ++ (d ++ (n ++ (l ++ u)))))))
regroup_eight h k a b c d n l u = simp append_assoc

abbrev sizes_from : ℕ → ℕ → ℕ → ℕ → ℕ → ModelSizes
sizes_from g e d s c = record { num_gauss = g; ext_gauss = e; feat_dim = d; ivector_dim = s; lda_cols = c }

sizes_same : (z y : ModelSizes) → z.num_gauss ≡ y.num_gauss → z.ext_gauss ≡ y.ext_gauss → z.feat_dim ≡ y.feat_dim → z.ivector_dim ≡ y.ivector_dim
    → z.lda_cols ≡ y.lda_cols → z ≡ y
sizes_same z y a b c d e =
    let h : sizes_from z.num_gauss z.ext_gauss z.feat_dim z.ivector_dim z.lda_cols ≡ sizes_from y.num_gauss y.ext_gauss y.feat_dim y.ivector_dim y.lda_cols = cc in
    h

params_same : (p q : Params) → p.sizes ≡ q.sizes → p.weights ≡ q.weights → p.means_invvars ≡ q.means_invvars → p.inv_vars ≡ q.inv_vars → p.m ≡ q.m
    → p.sigma_inv ≡ q.sigma_inv → p.prior_offset ≡ q.prior_offset → p.lda ≡ q.lda → p ≡ q
params_same p q a b c d e g h i =
    let k : params_from p.sizes p.weights p.means_invvars p.inv_vars p.m p.sigma_inv p.prior_offset p.lda
    ≡ params_from q.sizes q.weights q.means_invvars q.inv_vars q.m q.sigma_inv q.prior_offset q.lda = cc in
    k

module _ (f : Format) (p q : Params) where
  abbrev z : ModelSizes
  z = p.sizes

  abbrev y : ModelSizes
  y = q.sizes

  -- what both sets have
  pub record Known (o : IvectorOptions) (t : List ℕ) (a : Params) : Type 0 where
    pub sound_of : Sound f o t a (length (model_bytes f a))
    pub weights_fit : Fit f a.weights
    pub means_fit : Fit f a.means_invvars
    pub vars_fit : Fit f a.inv_vars
    pub m_fit : Fit f a.m
    pub sigma_fit : Fit f a.sigma_inv
    pub offset_fit : Fit f (a.prior_offset ∷ [])
    pub lda_fit : Fit f a.lda

  pub known : (o : IvectorOptions) (t : List ℕ) (a : Params) → Accepted f o t a → Known o t a
  unfolding all_of
  known o t a c =
      let h = each_of (λ (b : Bool). b) (of_width f a) c.shaped.of_width_is in
      record {
        sound_of = sound f o t a (length (model_bytes f a)) (accepted_taken f o t a c (length (model_bytes f a)) (omega arith));
        weights_fit = h.0;
        means_fit = h.1.0;
        vars_fit = h.1.1.0;
        m_fit = h.1.1.1.0;
        sigma_fit = h.1.1.1.1.0;
        offset_fit = and_both _ true h.1.1.1.1.1.0 refl;
        lda_fit = h.1.1.1.1.1.1.0;
      }

  -- the GMM, with whatever stands after it
  record SameGmm (s t : List ℕ) : Type 0 where
    gauss : z.num_gauss ≡ y.num_gauss
    feat : z.feat_dim ≡ y.feat_dim
    weights : p.weights ≡ q.weights
    means : p.means_invvars ≡ q.means_invvars
    vars : p.inv_vars ≡ q.inv_vars
    rest : s ≡ t

  module _ {o o' : IvectorOptions} {t t' : List ℕ} (a : Known o t p) (b : Known o' t' q) where
    same_gmm : (u v : List ℕ) → gmm_bytes f p ++ u ≡ gmm_bytes f q ++ v → SameGmm u v
    same_gmm u v e =
        let sp = a.sound_of in
        let sq = b.sound_of in
        let x3 : List ℕ = token_bytes "</DiagGMM>" ++ u in
        let y3 : List ℕ = token_bytes "</DiagGMM>" ++ v in
        let x2 : List ℕ = table_bytes f (vars_head f) z.num_gauss z.feat_dim p.inv_vars in
        let y2 : List ℕ = table_bytes f (vars_head f) y.num_gauss y.feat_dim q.inv_vars in
        let x1 : List ℕ = table_bytes f (means_head f) z.num_gauss z.feat_dim p.means_invvars in
        let y1 : List ℕ = table_bytes f (means_head f) y.num_gauss y.feat_dim q.means_invvars in
        let x0 : List ℕ = line_bytes f (weights_head f) z.num_gauss p.weights in
        let y0 : List ℕ = line_bytes f (weights_head f) y.num_gauss q.weights in
        let shape : x0 ++ (x1 ++ (x2 ++ x3)) ≡ y0 ++ (y1 ++ (y2 ++ y3)) =
        sym (regroup_four x0 x1 x2 (token_bytes "</DiagGMM>") u) ∙ ap (λ (l : List ℕ). l ++ u) (sym (gmm_is p f)) ∙ e ∙ ap (λ (l : List ℕ). l ++ v) (gmm_is q f) ∙ regroup_four y0 y1 y2 (token_bytes "</DiagGMM>") v in
        let w = line_apart f (weights_head f) z.num_gauss y.num_gauss p.weights q.weights (x1 ++ (x2 ++ x3)) (y1 ++ (y2 ++ y3)) (omega (arith, sp.gauss.high)) (omega (arith, sq.gauss.high))
        (λ g. sp.weights.long ∙ g ∙ sym sq.weights.long) a.weights_fit b.weights_fit shape in
        let m = table_apart f (means_head f) z.num_gauss z.feat_dim y.num_gauss y.feat_dim p.means_invvars q.means_invvars (x2 ++ x3) (y2 ++ y3)
        (omega (arith, sp.gauss.high)) (omega (arith, sp.feat.high)) (omega (arith, sq.gauss.high)) (omega (arith, sq.feat.high))
        (λ g d. sp.means.long ∙ times g d ∙ sym sq.means.long) a.means_fit b.means_fit w.2 in
        let v = table_apart f (vars_head f) z.num_gauss z.feat_dim y.num_gauss y.feat_dim p.inv_vars q.inv_vars x3 y3
        (omega (arith, sp.gauss.high)) (omega (arith, sp.feat.high)) (omega (arith, sq.gauss.high)) (omega (arith, sq.feat.high))
        (λ g d. sp.vars.long ∙ times g d ∙ sym sq.vars.long) a.vars_fit b.vars_fit m.3 in
        record { gauss = w.0; feat = m.1; weights = w.1; means = m.2; vars = v.2; rest = past (token_bytes "</DiagGMM>") _ _ v.3 }

    -- the extractor
    record SameExtractor (u v : List ℕ) : Type 0 where
      ext : z.ext_gauss ≡ y.ext_gauss
      ivector : z.ivector_dim ≡ y.ivector_dim
      m : p.m ≡ q.m
      sigma : p.sigma_inv ≡ q.sigma_inv
      offset : p.prior_offset ≡ q.prior_offset
      rest : u ≡ v

    same_extractor : z.feat_dim ≡ y.feat_dim → (u v : List ℕ) → extractor_bytes f p ++ u ≡ extractor_bytes f q ++ v → SameExtractor u v
    same_extractor feat u v eq =
        let sp = a.sound_of in
        let sq = b.sound_of in
        let e = z.ext_gauss in
        let e' = y.ext_gauss in
        let d = z.feat_dim in
        let d' = y.feat_dim in
        let s = z.ivector_dim in
        let s' = y.ivector_dim in
        let end : List ℕ = token_bytes "</IvectorExtractor>" in
        let x4 : List ℕ = numbers_bytes f (p.prior_offset ∷ []) ++ (end ++ u) in
        let y4 : List ℕ = numbers_bytes f (q.prior_offset ∷ []) ++ (end ++ v) in
        let x3 : List ℕ = sigma_blocks f e d p.sigma_inv ++ (offset_head f ++ x4) in
        let y3 : List ℕ = sigma_blocks f e' d' q.sigma_inv ++ (offset_head f ++ y4) in
        let x2 : List ℕ = m_blocks f e d s p.m ++ (token_bytes "<SigmaInv>" ++ x3) in
        let y2 : List ℕ = m_blocks f e' d' s' q.m ++ (token_bytes "<SigmaInv>" ++ y3) in
        let shape : m_head f ++ (size_bytes e ++ x2) ≡ m_head f ++ (size_bytes e' ++ y2) =
        sym (regroup_eight (m_head f) (size_bytes e) (m_blocks f e d s p.m) (token_bytes "<SigmaInv>") (sigma_blocks f e d p.sigma_inv) (offset_head f) (numbers_bytes f (p.prior_offset ∷ [])) end u)
        ∙ ap (λ (l : List ℕ). l ++ u) (sym (extractor_is p f)) ∙ eq ∙ ap (λ (l : List ℕ). l ++ v) (extractor_is q f)
        ∙ regroup_eight (m_head f) (size_bytes e') (m_blocks f e' d' s' q.m) (token_bytes "<SigmaInv>") (sigma_blocks f e' d' q.sigma_inv) (offset_head f) (numbers_bytes f (q.prior_offset ∷ [])) end v in
        let k = size-apart e e' x2 y2 (omega (arith, sp.ext.high)) (omega (arith, sq.ext.high)) (past (m_head f) (size_bytes e ++ x2) (size_bytes e' ++ y2) shape) in
        let ms = blocks_apart e (λ i. matrix_bytes f d s (part (d * s) i p.m)) (λ i. matrix_bytes f d' s' (part (d' * s') i q.m))
        (λ i. (s ≡ s') × (part (d * s) i p.m ≡ part (d' * s') i q.m)) (token_bytes "<SigmaInv>" ++ x3) (token_bytes "<SigmaInv>" ++ y3)
        (λ i l u v o. let l' : i < e' = omega (arith, k.0) in
        let h = table_apart f (ended (matrix_tag f)) d s d' s' (part (d * s) i p.m) (part (d' * s') i q.m) u v
        (omega (arith, sp.feat.high)) (omega (arith, sp.ivector.high)) (omega (arith, sq.feat.high)) (omega (arith, sq.ivector.high))
        (λ dd ss. long-part (d * s) e i p.m sp.m.long l ∙ times dd ss ∙ sym (long-part (d' * s') e' i q.m sq.m.long l'))
        (fit-part (fits f) (d * s) i p.m a.m_fit) (fit-part (fits f) (d' * s') i q.m b.m_fit) o in
        ((h.1, h.2), h.3))
        (k.1 ∙ ap (λ (n : ℕ). flat n (λ i. matrix_bytes f d' s' (part (d' * s') i q.m)) ++ (token_bytes "<SigmaInv>" ++ y3)) (sym k.0)) in
        let sigma-eq : x3 ≡ y3 = past (token_bytes "<SigmaInv>") x3 y3 ms.1 in
        let vs = blocks_apart e (λ i. packed_bytes f d (part (triangle d) i p.sigma_inv)) (λ i. packed_bytes f d' (part (triangle d') i q.sigma_inv))
        (λ i. part (triangle d) i p.sigma_inv ≡ part (triangle d') i q.sigma_inv) (offset_head f ++ x4) (offset_head f ++ y4)
        (λ i l u v o. let l' : i < e' = omega (arith, k.0) in
        let h = line_apart f (ended (packed_tag f)) d d' (part (triangle d) i p.sigma_inv) (part (triangle d') i q.sigma_inv) u v
        (omega (arith, sp.feat.high)) (omega (arith, sq.feat.high))
        (λ dd. long-part (triangle d) e i p.sigma_inv sp.sigma.long l ∙ ap triangle dd ∙ sym (long-part (triangle d') e' i q.sigma_inv sq.sigma.long l'))
        (fit-part (fits f) (triangle d) i p.sigma_inv a.sigma_fit) (fit-part (fits f) (triangle d') i q.sigma_inv b.sigma_fit) o in
        (h.1, h.2))
        (sigma-eq ∙ ap (λ (n : ℕ). flat n (λ i. packed_bytes f d' (part (triangle d') i q.sigma_inv)) ++ (offset_head f ++ y4)) (sym k.0)) in
        let n = numbers_apart f (p.prior_offset ∷ []) (q.prior_offset ∷ []) (end ++ u) (end ++ v) refl a.offset_fit b.offset_fit (past (offset_head f) x4 y4 vs.1) in
        record {
          ext = k.0;
          ivector = (ms.0 0 sp.ext.low).0;
          m =
              sym (parts_whole (d * s) e p.m sp.m.long) ∙ flat_ext e _ _ (λ i l. (ms.0 i l).1)
              ∙ ap (λ (n : ℕ). flat n (λ i. part (d' * s') i q.m)) k.0 ∙ parts_whole (d' * s') e' q.m sq.m.long;
          sigma =
              sym (parts_whole (triangle d) e p.sigma_inv sp.sigma.long) ∙ flat_ext e _ _ (λ i l. vs.0 i l)
              ∙ ap (λ (n : ℕ). flat n (λ i. part (triangle d') i q.sigma_inv)) k.0 ∙ parts_whole (triangle d') e' q.sigma_inv sq.sigma.long;
          offset = ap (λ (l : List Float). get_or l 0 nan) n.0;
          rest = past end u v n.1;
        }

    same_lda : lda_bytes f p ≡ lda_bytes f q → (z.lda_cols ≡ y.lda_cols) × (p.lda ≡ q.lda)
    same_lda eq =
        let sp = a.sound_of in
        let sq = b.sound_of in
        let shape : table_bytes f (lda_head f) z.feat_dim z.lda_cols p.lda ++ [] ≡ table_bytes f (lda_head f) y.feat_dim y.lda_cols q.lda ++ [] =
        append-nil _ ∙ sym (lda_is p f) ∙ eq ∙ lda_is q f ∙ sym (append-nil _) in
        let h = table_apart f (lda_head f) z.feat_dim z.lda_cols y.feat_dim y.lda_cols p.lda q.lda [] []
        (omega (arith, sp.feat.high)) (omega (arith, sp.columns.high)) (omega (arith, sq.feat.high)) (omega (arith, sq.columns.high))
        (λ dd cc. sp.lda.long ∙ times dd cc ∙ sym sq.lda.long) a.lda_fit b.lda_fit shape in
        (h.1, h.2)

    same : model_bytes f p ≡ model_bytes f q → p ≡ q
    same eq =
        let g = same_gmm (extractor_bytes f p ++ lda_bytes f p) (extractor_bytes f q ++ lda_bytes f q) eq in
        let x = same_extractor g.feat (lda_bytes f p) (lda_bytes f q) g.rest in
        let l = same_lda x.rest in
        let sizes : z ≡ y = sizes_same z y g.gauss x.ext g.feat x.ivector l.0 in
        params_same p q sizes g.weights g.means g.vars x.m x.sigma x.offset l.1

pub differ : Differ
differ f o o' t t' p q c c' e = same f p q (known f p q o t p c) (known f p q o' t' q c') e
