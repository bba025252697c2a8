-- "Options and sizes": the limits of the options and of a model's dimensions.
use Rattle.std.specs.Prelude.{ℕ, ◌+◌, ◌*◌, Bool, ◌&&◌, ◌||◌, [], ◌∷◌, leb, eqb}
use Rattle.std.specs.Float.Ieee.{lt, le}
use Rattle.std.specs.Float.Ieee.Scale.{finite}
use Rattle.loops.specs.Lists.{all_true}
use Rattle.floats.specs.Operators.{zero₃₂, one₃₂}
use Rattle.definition.specs.declared.IvectorOptions.{IvectorOptions}
use Rattle.definition.specs.declared.Dimensions.{Dimensions}

abbrev pub within : ℕ → ℕ → ℕ → Bool
within low high n = leb low n && leb n high

-- the longest window
abbrev pub max_window : ℕ
max_window = 1000

-- frames of a stream; a frame's number is below it
abbrev pub max_frames : ℕ
max_frames = 1000000000

-- where this fails: refusal 1
unfoldable pub options_in_range : IvectorOptions → Bool
options_in_range o = all_true (within 0 8 o.left_context
    ∷ within 0 8 o.right_context
    ∷ within 1 max_window o.cmn_window
    ∷ within 1 10000 o.global_frames
    ∷ within 1 32 o.num_gselect
    ∷ within 0 200 o.num_cg_iters
    ∷ (le zero₃₂ o.min_post && lt o.min_post one₃₂)
    ∷ finite o.posterior_scale
    ∷ finite o.max_count
    ∷ finite o.min_energy ∷ [])

abbrev pub max_gauss : ℕ
max_gauss = 1024

abbrev pub max_feat : ℕ
max_feat = 64

abbrev pub max_ivector : ℕ
max_ivector = 128

abbrev pub max_columns : ℕ
max_columns = 1089

-- of what a file holds and no model keeps: numbers of a vector, rows and columns of a matrix
abbrev pub max_skipped : ℕ
max_skipped = 1000000

-- where this fails: refusal 4
unfoldable pub dims_in_range : Dimensions → Bool
dims_in_range d = all_true (within 1 max_gauss d.num_gauss
    ∷ within 1 max_gauss d.ext_gauss
    ∷ within 1 max_feat d.feat_dim
    ∷ within 1 max_ivector d.ivector_dim
    ∷ within 1 64 d.base_dim
    ∷ within 1 max_columns d.lda_cols ∷ [])

-- frames of a spliced row, and its numbers
abbrev pub width : IvectorOptions → ℕ
width o = o.left_context + 1 + o.right_context

abbrev pub spliced : IvectorOptions → Dimensions → ℕ
spliced o d = d.base_dim * width o

-- where this fails: refusal 5. An LDA column past the spliced ones is the offset.
unfoldable pub dims_agree : IvectorOptions → Dimensions → Bool
dims_agree o d = (eqb d.lda_cols (spliced o d) || eqb d.lda_cols (spliced o d + 1)) && leb d.num_gauss d.ext_gauss
