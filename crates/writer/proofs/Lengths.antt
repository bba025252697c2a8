-- How long the files are, at each width; and that no product of sizes passes 64 bits.
use mathlib.Core.Path.{◌≡◌, refl, sym, ap, ◌∙◌}
use mathlib.Core.List.{List, [], ◌∷◌, ◌++◌}
use Prim.Native.Nat.{ℕ, suc, ◌+◌, ◌*◌, ◌≤◌}
use native.Mathlib.Nat.{mul-add, mul-le-mul}
use native.Mathlib.Omega.{arith}
use lib.ListN.{length, length-append}
use lib.Ieee.{Float, Format, binary32, binary64}
use Rattle.loops.proofs.Flat.{length_flat}
use Rattle.floats.specs.Real.{byte_width}
use Rattle.definition.specs.Kaldi.{matrix_tag, packed_tag, triangle}
use Rattle.writer.specs.declared.model_bytes.ModelSizes.{ModelSizes}
use Rattle.writer.specs.Written.{numbers_bytes, size_bytes, ended, token_bytes, line_bytes, table_bytes, matrix_bytes, packed_bytes, Params, part, gmm_bytes, extractor_bytes, lda_bytes, model_bytes}
use Rattle.writer.specs.Pieces.{weights_head, means_head, vars_head, m_head, offset_head, lda_head, m_blocks, sigma_blocks, gmm_pieces, extractor_pieces}
use Rattle.writer.proofs.Encoding.{length-low, length-numbers}
use Rattle.writer.proofs.Shapes.{gmm_is, extractor_is, lda_is, long-part}
use Rattle.writer.specs.Inner.ModelChecks.{InRange, gmm_length, extractor_length, lda_length, total_length}

-- ---- blocks

length-size : (n : ℕ) → length (size_bytes n) ≡ 5
length-size n = ap suc (length-low 4 n)

pub length-line : (f : Format) (head : List ℕ) (n : ℕ) (xs : List Float) → length (line_bytes f head n xs) ≡ length head + 5 + length xs * byte_width f
length-line f head n xs =
    omega (arith, length-append head (size_bytes n ++ numbers_bytes f xs), length-append (size_bytes n) (numbers_bytes f xs), length-size n, length-numbers f xs)

pub length_table : (f : Format) (head : List ℕ) (r c : ℕ) (xs : List Float) → length (table_bytes f head r c xs) ≡ length head + 10 + length xs * byte_width f
length_table f head r c xs =
    omega (
      arith,
      length-append head (size_bytes r ++ (size_bytes c ++ numbers_bytes f xs)),
      length-append (size_bytes r) (size_bytes c ++ numbers_bytes f xs),
      length-append (size_bytes c) (numbers_bytes f xs),
      length-size r,
      length-size c,
      length-numbers f xs,
    )

-- ---- the files

module _ (g d : ℕ) (w m v : List Float) (wl : length w ≡ g) (ml : length m ≡ g * d) (vl : length v ≡ g * d) where
  gmm_sum : (f : Format) (b : ℕ) → b ≡ byte_width f → length (weights_head f) ≡ 43 → length (means_head f) ≡ 19 → length (vars_head f) ≡ 14 → length (gmm_pieces f g d w m v) ≡ 112 + (g * b + (g * d * b + g * d * b))
  gmm_sum f b e h1 h2 h3 =
      let a1 : List ℕ = line_bytes f (weights_head f) g w in
      let a2 : List ℕ = table_bytes f (means_head f) g d m in
      let a3 : List ℕ = table_bytes f (vars_head f) g d v in
      let a4 : List ℕ = token_bytes "</DiagGMM>" in
      let n1 : length w * byte_width f ≡ g * b = rw (wl, e) in
      let n2 : length m * byte_width f ≡ g * d * b = rw (ml, e) in
      let n3 : length v * byte_width f ≡ g * d * b = rw (vl, e) in
      let l4 : length a4 ≡ 11 = refl in
      omega (arith, length-append a1 (a2 ++ (a3 ++ a4)), length-append a2 (a3 ++ a4), length-append a3 a4, length-line f (weights_head f) g w, length_table f (means_head f) g d m, length_table f (vars_head f) g d v)

  pub gmm_long : (f : Format) → length (gmm_pieces f g d w m v) ≡ 112 + byte_width f * (g + 2 * (g * d))
  gmm_long binary32 = gmm_sum binary32 4 refl refl refl refl ∙ omega arith
  gmm_long binary64 = gmm_sum binary64 8 refl refl refl refl ∙ omega arith

module _ (e d s : ℕ) (m v : List Float) (x : Float) (ml : length m ≡ e * (d * s)) (vl : length v ≡ e * triangle d) where
  m_long : (f : Format) → length (ended (matrix_tag f)) ≡ 3 → length (m_blocks f e d s m) ≡ e * (13 + d * s * byte_width f)
  m_long f h =
      length_flat (13 + d * s * byte_width f) e (λ i. matrix_bytes f d s (part (d * s) i m))
      (λ i l. length_table f (ended (matrix_tag f)) d s (part (d * s) i m) ∙ omega (arith, h, ap (λ (k : ℕ). k * byte_width f) (long-part (d * s) e i m ml l)))

  sigma_long : (f : Format) → length (ended (packed_tag f)) ≡ 3 → length (sigma_blocks f e d v) ≡ e * (8 + triangle d * byte_width f)
  sigma_long f h =
      length_flat (8 + triangle d * byte_width f) e (λ i. packed_bytes f d (part (triangle d) i v))
      (λ i l. length-line f (ended (packed_tag f)) d (part (triangle d) i v) ∙ omega (arith, h, ap (λ (k : ℕ). k * byte_width f) (long-part (triangle d) e i v vl l)))

  ext_sum : (f : Format) → length (m_head f) ≡ 58 → length (offset_head f) ≡ 17 → length (ended (matrix_tag f)) ≡ 3 → length (ended (packed_tag f)) ≡ 3
      → length (extractor_pieces f e d s m v x) ≡ 111 + byte_width f + (e * (13 + d * s * byte_width f) + e * (8 + triangle d * byte_width f))
  ext_sum f h1 h2 h3 h4 =
      let a2 : List ℕ = m_blocks f e d s m in
      let a3 : List ℕ = token_bytes "<SigmaInv>" in
      let a4 : List ℕ = sigma_blocks f e d v in
      let a5 : List ℕ = offset_head f in
      let a6 : List ℕ = numbers_bytes f (x ∷ []) in
      let a7 : List ℕ = token_bytes "</IvectorExtractor>" in
      let l3 : length a3 ≡ 11 = refl in
      let l6 : length a6 ≡ 1 * byte_width f = length-numbers f (x ∷ []) in
      let l7 : length a7 ≡ 20 = refl in
      omega (
        arith,
        length-append (m_head f ++ size_bytes e) (a2 ++ (a3 ++ (a4 ++ (a5 ++ (a6 ++ a7))))),
        length-append (m_head f) (size_bytes e),
        length-size e,
        length-append a2 (a3 ++ (a4 ++ (a5 ++ (a6 ++ a7)))),
        length-append a3 (a4 ++ (a5 ++ (a6 ++ a7))),
        length-append a4 (a5 ++ (a6 ++ a7)),
        length-append a5 (a6 ++ a7),
        length-append a6 a7,
        m_long f h3,
        sigma_long f h4,
      )

  both : (w : ℕ) → e * (13 + d * s * w) + e * (8 + triangle d * w) ≡ e * (13 + d * s * w + (8 + triangle d * w))
  both w = sym (mul-add e (13 + d * s * w) (8 + triangle d * w))

  pub ext_long : (f : Format) → length (extractor_pieces f e d s m v x) ≡ 111 + byte_width f + e * (21 + byte_width f * (d * s + triangle d))
  ext_long binary32 =
      let h : 13 + d * s * 4 + (8 + triangle d * 4) ≡ 21 + 4 * (d * s + triangle d) = omega arith in
      ext_sum binary32 refl refl refl refl ∙ ap (λ (k : ℕ). 111 + 4 + k) (both 4 ∙ ap (λ (k : ℕ). e * k) h)
  ext_long binary64 =
      let h : 13 + d * s * 8 + (8 + triangle d * 8) ≡ 21 + 8 * (d * s + triangle d) = omega arith in
      ext_sum binary64 refl refl refl refl ∙ ap (λ (k : ℕ). 111 + 8 + k) (both 8 ∙ ap (λ (k : ℕ). e * k) h)

pub lda-long : (f : Format) (d c : ℕ) (xs : List Float) → length xs ≡ d * c → length (table_bytes f (lda_head f) d c xs) ≡ 15 + byte_width f * (d * c)
lda-long binary32 d c xs h = let l : length (lda_head binary32) ≡ 5 = refl in omega (arith, length_table binary32 (lda_head binary32) d c xs)
lda-long binary64 d c xs h = let l : length (lda_head binary64) ≡ 5 = refl in omega (arith, length_table binary64 (lda_head binary64) d c xs)

-- all three
module _ (f : Format) (p : Params) (wl : length p.weights ≡ p.sizes.num_gauss) (ml : length p.means_invvars ≡ p.sizes.num_gauss * p.sizes.feat_dim)
    (vl : length p.inv_vars ≡ p.sizes.num_gauss * p.sizes.feat_dim) (el : length p.m ≡ p.sizes.ext_gauss * (p.sizes.feat_dim * p.sizes.ivector_dim))
    (sl : length p.sigma_inv ≡ p.sizes.ext_gauss * triangle p.sizes.feat_dim) (ll : length p.lda ≡ p.sizes.feat_dim * p.sizes.lda_cols) where
  pub total_is : total_length (byte_width f) p.sizes ≡ length (model_bytes f p)
  total_is =
      let z = p.sizes in
      let g = ap length (gmm_is p f) ∙ gmm_long z.num_gauss z.feat_dim p.weights p.means_invvars p.inv_vars wl ml vl f in
      let x = ap length (extractor_is p f) ∙ ext_long z.ext_gauss z.feat_dim z.ivector_dim p.m p.sigma_inv p.prior_offset el sl f in
      let l = ap length (lda_is p f) ∙ lda-long f z.feat_dim z.lda_cols p.lda ll in
      omega (arith, length-append (gmm_bytes f p) (extractor_bytes f p ++ lda_bytes f p), length-append (extractor_bytes f p) (lda_bytes f p), g, x, l)

-- ---- products of sizes

module _ (w : ℕ) (z : ModelSizes) (few : w ≤ 8) (r : InRange z) where
  abbrev g : ℕ
  g = z.num_gauss

  abbrev e : ℕ
  e = z.ext_gauss

  abbrev d : ℕ
  d = z.feat_dim

  abbrev s : ℕ
  s = z.ivector_dim

  pub cells_low : g * d ≤ 65536
  cells_low = mul-le-mul {n₂ = 1024} {m₂ = 64} r.gauss r.feat

  pub gmm_low : w * (g + 2 * (g * d)) ≤ 1056768
  gmm_low = let h : g + 2 * (g * d) ≤ 132096 = omega (arith, cells_low, r.gauss) in mul-le-mul {n₂ = 8} {m₂ = 132096} few h

  pub m_low : d * s ≤ 8192
  m_low = mul-le-mul {n₂ = 64} {m₂ = 128} r.feat r.ivector

  pub square_low : d * (d + 1) ≤ 4160
  square_low = let h : d + 1 ≤ 65 = omega (arith, r.feat) in mul-le-mul {n₂ = 64} {m₂ = 65} r.feat h

  pub block_low : w * (d * s + triangle d) ≤ 82176
  block_low = let h : d * s + triangle d ≤ 10272 = omega (arith, m_low, square_low) in mul-le-mul {n₂ = 8} {m₂ = 10272} few h

  pub blocks_low : e * (21 + w * (d * s + triangle d)) ≤ 84169728
  blocks_low = let h : 21 + w * (d * s + triangle d) ≤ 82197 = omega (arith, block_low) in mul-le-mul {n₂ = 1024} {m₂ = 82197} r.ext h

  pub columns_low : d * z.lda_cols ≤ 69696
  columns_low = mul-le-mul {n₂ = 64} {m₂ = 1089} r.feat r.columns

  pub lda_low : w * (d * z.lda_cols) ≤ 557568
  lda_low = mul-le-mul {n₂ = 8} {m₂ = 69696} few columns_low

  pub total_low : total_length w z ≤ 85784310
  total_low = omega (arith, gmm_low, blocks_low, lda_low, few)

-- the three lengths as code adds them, at as many bytes a number as the width has
pub sum_is : (z : ModelSizes) {a b c w v : ℕ} → a ≡ gmm_length w z → b ≡ extractor_length w z → c ≡ lda_length w z → w ≡ v → a + b + c ≡ total_length v z
sum_is z p q r e = rw (p, q, r, e)

pub few_bytes : (f : Format) {n : ℕ} → n ≡ byte_width f → n ≤ 8
few_bytes binary32 e = omega arith
few_bytes binary64 e = omega arith
