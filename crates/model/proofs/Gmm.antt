-- The GMM's constants, and the offset of an LDA with no column for it.
use Rattle.std.proofs.Common.{◌≡◌, ℕ, ◌+◌, ◌*◌, ◌≤◌, Bool, List, replicate, sym, ap, ◌∙◌, le-ltb, if◌then◌else◌}
use lib.Ieee.{Float}
use Rattle.loops.specs.Lists.{build}
use Rattle.loops.proofs.Build.{build_ext, build_same}
use Rattle.floats.specs.Operators.{◌+₆₄◌, ◌-₆₄◌, ◌*₆₄◌, ◌/₆₄◌, zero₃₂, half₆₄, at, sum₆₄}
use Rattle.floats.specs.Narrow.{narrowed}
use Rattle.floats.specs.Ln.{ln_of}
use Rattle.definition.specs.Kaldi.{Matrix, Gmm}
use Rattle.definition.specs.Model.{gconst_offset, gconst, lda_offset_of}

-- what dimension k of Gaussian g adds
abbrev pub term : Gmm → ℕ → ℕ → Float
term x g k =
    let i = g * x.inv_vars.cols + k in
    half₆₄ *₆₄ ln_of (at x.inv_vars.nums i) -₆₄ half₆₄ *₆₄ at x.means_invvars.nums i *₆₄ at x.means_invvars.nums i /₆₄ at x.inv_vars.nums i

pub term_is : {l a b m v : Float} → l ≡ ln_of b → a ≡ m → b ≡ v
    → half₆₄ *₆₄ l -₆₄ half₆₄ *₆₄ a *₆₄ a /₆₄ b ≡ half₆₄ *₆₄ ln_of v -₆₄ half₆₄ *₆₄ m *₆₄ m /₆₄ v
term_is h e f = rw (h, e, f)

pub gconst_is : (x : Gmm) (g : ℕ) {w offset gc r : Float} → w ≡ ln_of (at x.weights g) → offset ≡ gconst_offset x.inv_vars.cols
    → gc ≡ sum₆₄ (w +₆₄ offset) x.inv_vars.cols (term x g) → r ≡ narrowed gc → r ≡ gconst x g
unfolding gconst
gconst_is x g {offset = o} e f h p = p ∙ ap narrowed (h ∙ ap (λ (s : Float). sum₆₄ s x.inv_vars.cols (term x g)) (ap (λ (s : Float). s +₆₄ o) e ∙ ap (λ (s : Float). ln_of (at x.weights g) +₆₄ s) f))

-- ---- the offset where there is no column for it

pub no_offset : (n : ℕ) (x : Matrix) (k : ℕ) (y : List Float) → x.cols ≤ n → k ≡ x.rows → y ≡ replicate k zero₃₂ → y ≡ build x.rows (lda_offset_of n x)
no_offset n x k y l e h =
    h ∙ ap (λ (k : ℕ). replicate k zero₃₂) e ∙ sym (build_same x.rows zero₃₂)
    ∙ build_ext x.rows _ _ (λ r p. ap (λ (t : Bool). if t then at x.nums (r * x.cols + n) else zero₃₂) (sym (le-ltb n x.cols l)))
