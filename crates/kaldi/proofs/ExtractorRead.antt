-- The extractor, read from a place on: how its parts stand there, and each way out as a case of the definition's `extractor`.
use mathlib.Core.Path.{◌≡◌, refl, sym, ap, ◌∙◌}
use mathlib.Core.Bool.{Bool, true, false, ◌&&◌}
use mathlib.Core.List.{List, ◌∷◌}
use Prim.Native.Nat.{ℕ, ◌-◌, ◌≤◌}
use borrow.Author.Tests.{eq-eqb}
use lib.Ieee.{Float, binary64}
use Rattle.loops.specs.Lists.{all_of}
use Rattle.loops.proofs.Choose.{and_holds}
use Rattle.definition.specs.Options.{max_gauss, max_feat, max_ivector}
use Rattle.definition.specs.Reader.{Got, Parser, after, give, need, times, text, refused, read}
use Rattle.definition.specs.Kaldi.{token, dim, Matrix, Packed, Extractor, matrix, single, matrix_at, alike, extractor_heading, extractor}
use Rattle.kaldi.proofs.Chain.{goes, stops, met, unmet, not-read, same_refusal}
use Rattle.kaldi.specs.Inner.KaldiFilesAnswers.{means, inverses, items, sized_as, square_as, ExtractorIn}
use Rattle.kaldi.specs.Inner.KaldiFiles.{tally, Counted, counted, MeansIn, closing}
use Rattle.kaldi.proofs.FileRuns.{rest_read, tally_stands, tally_value}

-- ---- parts that have a function of their own

module _ {B : Type 0} {x : Got B} (s : List ℕ) (at : ℕ) where
  pub past_counted : (k : ℕ → List Matrix → Parser B) → x ≡ after (counted s at) (λ m. k m.count m.list) s
      → x ≡ after (dim 1 max_gauss s at) (λ n t p. after (times n (matrix binary64 false max_feat max_ivector) t p) (k n) t) s
  unfolding counted
  past_counted k e = e ∙ count (dim 1 max_gauss s at)
    where
      list : (n : ℕ) (g : Got (List Matrix)) → after (after g (λ ms. give {A = Counted} (record { count = n; list = ms })) s) (λ m. k m.count m.list) s ≡ after g (k n) s
      list n (refused r) = refl
      list n (read ms p) = refl

      count : (g : Got ℕ)
          → after (after g (λ n t p. after (times n (matrix binary64 false max_feat max_ivector) t p) (λ ms. give {A = Counted} (record { count = n; list = ms })) t) s) (λ m. k m.count m.list) s
          ≡ after g (λ n t p. after (times n (matrix binary64 false max_feat max_ivector) t p) (k n) t) s
      count (refused r) = refl
      count (read n p) = list n (times n (matrix binary64 false max_feat max_ivector) s p)

  past_closing : (k : Float → Parser B) → x ≡ after (closing s at) k s
      → x ≡ after (token (text "<IvectorOffset>") s at) (λ _ t p. after (single t p) (λ y u q. after (token (text "</IvectorExtractor>") u q) (λ _. k y) u) t) s
  unfolding closing
  past_closing k e = e ∙ first (token (text "<IvectorOffset>") s at)
    where
      last : (y : Float) (g : Got (Unit {0})) → after (after g (λ _. give y) s) k s ≡ after g (λ _. k y) s
      last y (refused r) = refl
      last y (read u p) = refl

      number : (g : Got Float)
          → after (after g (λ y u q. after (token (text "</IvectorExtractor>") u q) (λ _. give y) u) s) k s
          ≡ after g (λ y u q. after (token (text "</IvectorExtractor>") u q) (λ _. k y) u) s
      number (refused r) = refl
      number (read y p) = last y (token (text "</IvectorExtractor>") s p)

      first : (g : Got (Unit {0}))
          → after (after g (λ _ t p. after (single t p) (λ y u q. after (token (text "</IvectorExtractor>") u q) (λ _. give y) u) t) s) k s
          ≡ after g (λ _ t p. after (single t p) (λ y u q. after (token (text "</IvectorExtractor>") u q) (λ _. k y) u) t) s
      first (refused r) = refl
      first (read u p) = number (single s p)

-- ---- the matrices M, by the first and the rest

module _ (s : List ℕ) (count from : ℕ) (low : 1 ≤ count) (m : Matrix) (p : ℕ) (one : matrix binary64 false max_feat max_ivector s from ≡ read m p)
    {even : Bool} {next : ℕ} (rest : tally true (sized_as m.rows m.cols) (means s (count - 1) p) ≡ read even next) where
  all_of_is : means s count from ≡ read (m ∷ items (means s (count - 1) p)) next
  all_of_is = rest_read (matrix binary64 false max_feat max_ivector) s from count low m p one _ next (tally_stands (sized_as m.rows m.cols) true (means s (count - 1) p) rest)

  they_are : items (means s count from) ≡ m ∷ items (means s (count - 1) p)
  unfolding items
  they_are = ap items all_of_is

  first_alike : all_of (sized_as m.rows m.cols) (m ∷ items (means s (count - 1) p)) ≡ even
  unfolding all_of
  first_alike =
      simp (eq-eqb m.rows m.rows refl, eq-eqb m.cols m.cols refl)
      (tally_value (sized_as m.rows m.cols) true (means s (count - 1) p) rest)

  pub means_known : count ≤ max_gauss → (1 ≤ m.rows) × (m.rows ≤ max_feat) → (1 ≤ m.cols) × (m.cols ≤ max_ivector) → MeansIn s count m.rows m.cols even from next
  means_known high r c =
      record {
        stands = all_of_is ∙ ap (λ (l : List Matrix). read l next) (sym they_are);
        rows_are = ap (λ (l : List Matrix). (matrix_at l 0).rows) they_are;
        cols_are = ap (λ (l : List Matrix). (matrix_at l 0).cols) they_are;
        alike_is = ap (all_of (sized_as m.rows m.cols)) they_are ∙ first_alike;
        count_low = low;
        count_high = high;
        rows_low = r.0;
        rows_high = r.1;
        cols_low = c.0;
        cols_high = c.1;
      }

-- ---- the file

module _ (s : List ℕ) {count rows cols : ℕ} {even : Bool} {m next : ℕ} (o : MeansIn s count rows cols even m next)
    (sigma : ℕ) {square both : Bool} {z : ℕ} (f : tally true (square_as rows) (inverses s count sigma) ≡ read square z) (is : both ≡ (even && square)) where
  pub alike_is_both : alike (items (means s count m)) (items (inverses s count sigma)) ≡ both
  unfolding alike
  alike_is_both =
      rw (o.rows_are, o.cols_are, o.alike_is)
      (ap (λ (v : Bool). even && v) (tally_value (square_as rows) true (inverses s count sigma) f) ∙ sym is)

  pub extractor_is : (y : Float) (end : ℕ) → ◌≡◌ {A = Got Extractor}
      (read (record { num_gauss = count; feat_dim = rows; ivector_dim = cols; m = items (means s count m); sigma_inv = items (inverses s count sigma); prior_offset = y }) end)
      (read
      (record {
        num_gauss = count;
        feat_dim = (matrix_at (items (means s count m)) 0).rows;
        ivector_dim = (matrix_at (items (means s count m)) 0).cols;
        m = items (means s count m);
        sigma_inv = items (inverses s count sigma);
        prior_offset = y;
      })
      end)
  extractor_is y end = rw (o.rows_are, o.cols_are)

  pub extractor_known : both ≡ true → ExtractorIn s count rows cols m sigma
  extractor_known x =
      let h = and_holds even square (sym is ∙ x) in
      record {
        m_end = next;
        m_stands = o.stands;
        m_alike = o.alike_is ∙ h.0;
        sigma_end = z;
        sigma_stands = tally_stands (square_as rows) true (inverses s count sigma) f;
        sigma_alike = tally_value (square_as rows) true (inverses s count sigma) f ∙ h.1;
        gauss_low = o.count_low;
        gauss_high = o.count_high;
        feat_low = o.rows_low;
        feat_high = o.rows_high;
        ivec_low = o.cols_low;
        ivec_high = o.cols_high;
      }

-- the readers that it keeps stand in the same bytes
module _ (s : List ℕ) (gauss feat ivec m sigma : ℕ) (y : Float) (end : ℕ) where
  stands_in : List ℕ → List ℕ → Got Extractor
  stands_in u v = read (record { num_gauss = gauss; feat_dim = feat; ivector_dim = ivec; m = items (means u gauss m); sigma_inv = items (inverses v gauss sigma); prior_offset = y }) end

  pub same_sources : (u v : List ℕ) → u ≡ s → v ≡ s → ◌≡◌ {A = Got Extractor}
      (read (record { num_gauss = gauss; feat_dim = feat; ivector_dim = ivec; m = items (means u gauss m); sigma_inv = items (inverses v gauss sigma); prior_offset = y }) end)
      (read (record { num_gauss = gauss; feat_dim = feat; ivector_dim = ivec; m = items (means s gauss m); sigma_inv = items (inverses s gauss sigma); prior_offset = y }) end)
  unfolding stands_in
  same_sources u v e f = ap (λ (w : List ℕ). stands_in w v) e ∙ ap (stands_in s) f

-- ---- a test, from what its answer says

pub need_met : (t : Bool) (n : ℕ) (s : List ℕ) (z : ℕ) → read tt z ≡ need t n s z → t ≡ true
need_met true n s z e = refl
need_met false n s z e = absurd (not-read (sym e))

pub need_unmet : (t : Bool) (n k : ℕ) (s : List ℕ) (z : ℕ) → refused k ≡ need t n s z → (t ≡ false) × (k ≡ n)
need_unmet true n k s z e = absurd (not-read e)
need_unmet false n k s z e = (refl, same_refusal e)

-- ---- each way out of the file, by what the items before it said

module _ (s : List ℕ) (a : ℕ) where
  pub no_heading : {r : ℕ} → extractor_heading s a ≡ refused r → refused r ≡ extractor s a
  unfolding extractor
  no_heading e = stops _ s e refl

  module _ {p : ℕ} (h : extractor_heading s a ≡ read tt p) where
    pub no_means : {r : ℕ} → counted s p ≡ refused r → refused r ≡ extractor s a
    unfolding extractor
    no_means e = goes _ s h (past_counted s p _ (stops _ s e refl))

    module _ {m : Counted} {q : ℕ} (i : counted s p ≡ read m q) where
      pub no_token : {r : ℕ} → token (text "<SigmaInv>") s q ≡ refused r → refused r ≡ extractor s a
      unfolding extractor
      no_token e = goes _ s h (past_counted s p _ (goes _ s i (stops _ s e refl)))

      module _ {t : ℕ} (j : token (text "<SigmaInv>") s q ≡ read tt t) where
        pub no_inverses : {r : ℕ} → inverses s m.count t ≡ refused r → refused r ≡ extractor s a
        unfolding extractor
        no_inverses e = goes _ s h (past_counted s p _ (goes _ s i (goes _ s j (stops _ s e refl))))

        module _ {vs : List Packed} {u : ℕ} (k : inverses s m.count t ≡ read vs u) where
          pub no_closing : {r : ℕ} → closing s u ≡ refused r → refused r ≡ extractor s a
          unfolding extractor
          no_closing e = goes _ s h (past_counted s p _ (goes _ s i (goes _ s j (goes _ s k (past_closing s u _ (stops _ s e refl))))))

          module _ {y : Float} {z : ℕ} (l : closing s u ≡ read y z) where
            pub not_alike : alike m.list vs ≡ false → refused 5 ≡ extractor s a
            unfolding extractor
            not_alike e =
                goes _ s h (past_counted s p _ (goes _ s i (goes _ s j (goes _ s k (past_closing s u _ (goes _ s l (stops _ s (sym (unmet 5 s z e)) refl)))))))

            pub all_alike : alike m.list vs ≡ true → {x : Got Extractor}
                → x ≡ read
                (record {
                  num_gauss = m.count;
                  feat_dim = (matrix_at m.list 0).rows;
                  ivector_dim = (matrix_at m.list 0).cols;
                  m = m.list;
                  sigma_inv = vs;
                  prior_offset = y;
                })
                z
                → x ≡ extractor s a
            unfolding extractor
            all_alike e d =
                goes _ s h (past_counted s p _ (goes _ s i (goes _ s j (goes _ s k (past_closing s u _ (goes _ s l (goes _ s (sym (met 5 s z e)) d)))))))
