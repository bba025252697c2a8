-- The extractor's blocks, read again.
use Rattle.std.proofs.Common.{◌≡◌, ℕ, ◌+◌, ◌-◌, ◌<◌, false, List, [], length, get_or, drop, sym, ap, ◌∙◌, arith, eqb-true}
use lib.Ieee.{Float, binary64}
use Rattle.loops.specs.Lists.{flat, over}
use Rattle.loops.proofs.Tests.{each_at}
use Rattle.definition.specs.Options.{max_feat, max_ivector}
use Rattle.definition.specs.Reader.{read, times, Parser}
use Rattle.definition.specs.Kaldi.{Matrix, Packed, Extractor, matrix, packed_matrix, matrix_at}
use Rattle.kaldi.specs.Inner.KaldiIoAnswers.{place_of}
use Rattle.kaldi.specs.Inner.KaldiFilesAnswers.{means, inverses, items, sized_as, square_as, ExtractorIn}
use Rattle.kaldi.proofs.FileRuns.{item_there, rest_there, times_length}
use Rattle.kaldi.proofs.ExtractorParts.{sized_is}
use Rattle.model.specs.Inner.IvectorTables.{matrix_nums, packed_nums, MAt, SigmaAt, sigma_inv_m_at, quadratic_term_at, sigma_inv_ms, quadratic_terms}

-- ---- both runs, one Gaussian after the other

abbrev no_matrix : Matrix
no_matrix = record { rows = 0; cols = 0; nums = [] }

abbrev no_packed : Packed
no_packed = record { rows = 0; nums = [] }

-- the M's from p on, and the Σ⁻¹'s from q on, are those from Gaussian i on
abbrev pub MFrom : List ℕ → ℕ → ℕ → ℕ → ℕ → Type 0
MFrom s gauss m i p = times (gauss - i) (matrix binary64 false max_feat max_ivector) s p ≡ read (drop i (items (means s gauss m))) (place_of (means s gauss m))

abbrev pub SigmaFrom : List ℕ → ℕ → ℕ → ℕ → ℕ → Type 0
SigmaFrom s gauss sigma i q = times (gauss - i) packed_matrix s q ≡ read (drop i (items (inverses s gauss sigma))) (place_of (inverses s gauss sigma))

run-start : {A : Type 0} (p : Parser A) (s : List ℕ) (n at : ℕ) {xs : List A} {z : ℕ} → times n p s at ≡ read xs z → times (n - 0) p s at ≡ read (drop 0 xs) (place_of (times n p s at))
run-start p s n at {xs} e = let h : n - 0 ≡ n = omega arith in ap (λ (k : ℕ). times k p s at) h ∙ e ∙ ap (λ (k : ℕ). read xs k) (sym (ap place_of e))

module _ {s : List ℕ} {gauss d n m sigma : ℕ} (x : ExtractorIn s gauss d n m sigma) where
  pub m_start : MFrom s gauss m 0 m
  m_start = run-start (matrix binary64 false max_feat max_ivector) s gauss m x.m_stands

  pub sigma_start : SigmaFrom s gauss sigma 0 sigma
  sigma_start = run-start packed_matrix s gauss sigma x.sigma_stands

  module _ (i : ℕ) (l : i < gauss) where
    module _ (p : ℕ) (there : MFrom s gauss m i p) where
      m_item : matrix binary64 false max_feat max_ivector s p ≡ read (matrix_at (items (means s gauss m)) i) (place_of (matrix binary64 false max_feat max_ivector s p))
      m_item = item_there (matrix binary64 false max_feat max_ivector) s no_matrix gauss i p (items (means s gauss m)) l there

      pub m_at_lem : MAt d n s p
      m_at_lem =
          let k : i < length (items (means s gauss m)) = omega (arith, times_length (matrix binary64 false max_feat max_ivector) s no_matrix gauss m x.m_stands) in
          let h = sized_is d n (matrix_at (items (means s gauss m)) i) (each_at (sized_as d n) no_matrix (items (means s gauss m)) i x.m_alike k) in
          record {
            block = matrix_at (items (means s gauss m)) i;
            next = place_of (matrix binary64 false max_feat max_ivector s p);
            stands = m_item;
            rows_are = h.0;
            cols_are = h.1;
          }

      pub m_is : matrix_nums (matrix binary64 false max_feat max_ivector s p) ≡ (matrix_at (items (means s gauss m)) i).nums
      m_is = ap matrix_nums m_item

      pub m_next : {z : ℕ} → z ≡ place_of (matrix binary64 false max_feat max_ivector s p) → MFrom s gauss m (i + 1) z
      m_next e = ap (λ (k : ℕ). times (gauss - (i + 1)) (matrix binary64 false max_feat max_ivector) s k) e ∙ rest_there (matrix binary64 false max_feat max_ivector) s no_matrix gauss i p (items (means s gauss m)) l there

    module _ (q : ℕ) (there : SigmaFrom s gauss sigma i q) where
      sigma_item : packed_matrix s q ≡ read (get_or (items (inverses s gauss sigma)) i no_packed) (place_of (packed_matrix s q))
      sigma_item = item_there packed_matrix s no_packed gauss i q (items (inverses s gauss sigma)) l there

      pub sigma_at : SigmaAt d s q
      sigma_at =
          let k : i < length (items (inverses s gauss sigma)) = omega (arith, times_length packed_matrix s no_packed gauss sigma x.sigma_stands) in
          record {
            block = get_or (items (inverses s gauss sigma)) i no_packed;
            next = place_of (packed_matrix s q);
            stands = sigma_item;
            size_is = eqb-true _ _ (each_at (square_as d) no_packed (items (inverses s gauss sigma)) i x.sigma_alike k);
          }

      pub sigma_is : packed_nums (packed_matrix s q) ≡ (get_or (items (inverses s gauss sigma)) i no_packed).nums
      sigma_is = ap packed_nums sigma_item

      pub sigma_next : {z : ℕ} → z ≡ place_of (packed_matrix s q) → SigmaFrom s gauss sigma (i + 1) z
      sigma_next e = ap (λ (k : ℕ). times (gauss - (i + 1)) packed_matrix s k) e ∙ rest_there packed_matrix s no_packed gauss i q (items (inverses s gauss sigma)) l there

-- ---- the tables of all Gaussians

module _ (x : Extractor) (room : List Float) {y : List Float} where
  pub sigma_tables : y ≡ over (flat x.num_gauss (sigma_inv_m_at x)) room → y ≡ over (sigma_inv_ms x) room
  unfolding sigma_inv_ms
  sigma_tables e = e

  pub quadratic_tables : y ≡ over (flat x.num_gauss (quadratic_term_at x)) room → y ≡ over (quadratic_terms x) room
  unfolding quadratic_terms
  quadratic_tables e = e
