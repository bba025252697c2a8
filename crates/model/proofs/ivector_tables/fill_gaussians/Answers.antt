-- `fill_gaussians` meets its contract: its loop goes along both runs, whose blocks stand as they were checked (Again.antt), by the laws of rows that
-- make a table (crate loops).
use Rattle.std.proofs.Common.{◌≡◌, ℕ, ◌+◌, ◌-◌, ◌*◌, ◌/◌, false, List, length, Bor, sym, refl, ap, ◌∙◌, subst, arith}
use lib.Ieee.{binary64}
use Rattle.loops.proofs.Flat.{rows_none, rows_turn, rows_end, length_flat}
use Rattle.definition.specs.Options.{max_feat, max_ivector}
use Rattle.definition.specs.Kaldi.{matrix, packed_matrix}
use Rattle.definition.proofs.Lengths.{length_sigma, length_quadratic}
use Rattle.kaldi.specs.Inner.KaldiIoAnswers.{place_of}
use Rattle.kaldi.specs.Inner.KaldiFilesAnswers.{ExtractorIn}
use Rattle.kaldi.specs.Parts.{extractor_in}
use Rattle.model.specs.Inner.IvectorTables.{matrix_nums, packed_nums, MAt, SigmaAt, sigma_inv_m_at, quadratic_term_at}
use Rattle.model.proofs.Rows.{sigma_by, quadratic_by}
use Rattle.model.proofs.Again.{m_start, sigma_start, m_at_lem, m_is, m_next, sigma_at, sigma_is, sigma_next, sigma_tables, quadratic_tables}
use Rattle.model.proofs.ivector_tables.fill_gaussians.Goals.{In-loop-i, Start}
use Rattle.model.proofs.ivector_tables.fill_gaussians.Goals as goal

-- what was checked, over the bytes of the run of Σ⁻¹
over_sigma : (c : Start) → let e = c.args.e.now in ExtractorIn e.sigma_inv.src.now e.num_gauss e.feat_dim e.ivector_dim e.m.at e.sigma_inv.at
over_sigma c = let e = c.args.e.now in subst (λ (s : List ℕ). ExtractorIn s e.num_gauss e.feat_dim e.ivector_dim e.m.at e.sigma_inv.at) (sym c.requires.same_source) c.requires.stands

-- both readers are in their files
m_bytes : (c : In-loop-i) → c.loop-i.next.m.src.now ≡ c.args.e.now.m.src.now
m_bytes c = ap (λ (b : Bor (List ℕ)). b.now) c.loop-i.invariant.m_source

sigma_bytes : (c : In-loop-i) → c.loop-i.next.sigma_inv.src.now ≡ c.args.e.now.sigma_inv.src.now
sigma_bytes c = ap (λ (b : Bor (List ℕ)). b.now) c.loop-i.invariant.sigma_source

-- blocks by lengths and bytes that are told
m_told : {d e n w : ℕ} {s t : List ℕ} (p : ℕ) → e ≡ d → w ≡ n → t ≡ s → MAt d n s p → MAt e w t p
m_told p f g h x = rw (f, g, h) x

sigma_told : {d e : ℕ} {s t : List ℕ} (q : ℕ) → e ≡ d → t ≡ s → SigmaAt d s q → SigmaAt e t q
sigma_told q f h x = rw (f, h) x

pub loop-i-init : goal.loop-i-init
loop-i-init c =
    let x = extractor_in c.args.e.now in
    record {
      feat_dim = refl;
      ivector_dim = refl;
      m_source = refl;
      sigma_source = refl;
      m_next = m_start c.requires.stands;
      sigma_next = sigma_start (over_sigma (goal.at.loop-i-init c).Start);
      products = rows_none (sigma_inv_m_at x) _;
      terms = rows_none (quadratic_term_at x) _;
    }

pub fill_gaussian-requires-clause-m_stands : goal.fill_gaussian-requires-clause-m_stands
fill_gaussian-requires-clause-m_stands c =
    let loop = c.loop-i in
    let known = loop.invariant in
    m_told loop.next.m.at known.feat_dim known.ivector_dim (m_bytes (goal.at.fill_gaussian-requires-clause-m_stands c).In-loop-i)
    (m_at_lem c.requires.stands loop.i c.loop-i-test.true loop.next.m.at known.m_next)

pub fill_gaussian-requires-clause-sigma_stands : goal.fill_gaussian-requires-clause-sigma_stands
fill_gaussian-requires-clause-sigma_stands c =
    let loop = c.loop-i in
    let known = loop.invariant in
    sigma_told loop.next.sigma_inv.at known.feat_dim (sigma_bytes (goal.at.fill_gaussian-requires-clause-sigma_stands c).In-loop-i)
    (sigma_at (over_sigma (goal.at.fill_gaussian-requires-clause-sigma_stands c).Start) loop.i c.loop-i-test.true loop.next.sigma_inv.at known.sigma_next)

pub loop-i-preserved : goal.loop-i-preserved
loop-i-preserved c =
    let x = extractor_in c.args.e.now in
    let d = x.feat_dim in
    let n = x.ivector_dim in
    let loop = c.loop-i in
    let known = loop.invariant in
    let i = loop.i in
    let p = loop.next.m.at in
    let q = loop.next.sigma_inv.at in
    let l = c.loop-i-test.true in
    let done = c.fill_gaussian.ensures in
    let stands = over_sigma (goal.at.loop-i-preserved c).Start in
    let m-bytes = m_bytes (goal.at.loop-i-preserved c).In-loop-i in
    let s-bytes = sigma_bytes (goal.at.loop-i-preserved c).In-loop-i in
    let ms = ap (λ (s : List ℕ). matrix_nums (matrix binary64 false max_feat max_ivector s p)) m-bytes ∙ m_is c.requires.stands i l p known.m_next in
    let vs = ap (λ (s : List ℕ). packed_nums (packed_matrix s q)) s-bytes ∙ sigma_is stands i l q known.sigma_next in
    let product = sigma_by done.sigma_inv_m_after known.feat_dim known.ivector_dim vs ms in
    let term = quadratic_by done.u_after known.feat_dim known.ivector_dim vs ms in
    record {
      feat_dim = done.behind.feat_dim ∙ known.feat_dim;
      ivector_dim = done.behind.ivector_dim ∙ known.ivector_dim;
      m_source = done.behind.m_source ∙ known.m_source;
      sigma_source = done.behind.sigma_source ∙ known.sigma_source;
      m_next = m_next c.requires.stands i l p known.m_next (done.behind.m_place ∙ ap (λ (s : List ℕ). place_of (matrix binary64 false max_feat max_ivector s p)) m-bytes);
      sigma_next = sigma_next stands i l q known.sigma_next (done.behind.sigma_place ∙ ap (λ (s : List ℕ). place_of (packed_matrix s q)) s-bytes);
      products = rows_turn (sigma_inv_m_at x) i _ {k = i * (d * n) + d * n - i * (d * n)} (length_flat (d * n) i (sigma_inv_m_at x) (λ k l. length_sigma d n _ _)) known.products product
          (ap length product ∙ length_sigma d n _ _ ∙ omega arith);
      terms = rows_turn (quadratic_term_at x) i _ {k = i * (n * (n + 1) / 2) + n * (n + 1) / 2 - i * (n * (n + 1) / 2)} (length_flat (n * (n + 1) / 2) i (quadratic_term_at x) (λ k l. length_quadratic d n _ _)) known.terms term
          (ap length term ∙ length_quadratic d n _ _ ∙ omega arith);
    }

pub returns-clause-sigma_inv_m_after : goal.returns-clause-sigma_inv_m_after
returns-clause-sigma_inv_m_after c =
    let x = extractor_in c.args.e.now in
    sigma_tables x _ (rows_end (sigma_inv_m_at x) c.loop-i.i _ _ (omega arith) c.loop-i-test.false c.loop-i.invariant.products)

pub returns-clause-u_after : goal.returns-clause-u_after
returns-clause-u_after c =
    let x = extractor_in c.args.e.now in
    quadratic_tables x _ (rows_end (quadratic_term_at x) c.loop-i.i _ _ (omega arith) c.loop-i-test.false c.loop-i.invariant.terms)
