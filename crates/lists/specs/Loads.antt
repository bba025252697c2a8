-- The model of example P9 loads with each base dimension, and is as stated.
use Rattle.std.specs.Prelude.{◌≡◌, ℕ, ◌≤◌, ◌&&◌, [], ◌∷◌, ◌++◌, leb, replicate, if◌then◌else◌}
use Rattle.floats.specs.Operators.{f32, as_f64, one₃₂, zero₃₂}
use Rattle.definition.specs.declared.Dimensions.{Dimensions}
use Rattle.definition.specs.declared.TableLengths.{TableLengths}
use Rattle.definition.specs.Reader.{read, refused}
use Rattle.definition.specs.Model.{Model, model, tables_from, lengths_from, tables_fit, load}
use Rattle.lists.specs.Files.{options, files}

abbrev pub dims : ℕ → Dimensions
dims dim = record { num_gauss = 1; ext_gauss = 1; feat_dim = 1; ivector_dim = 1; base_dim = dim; lda_cols = dim }

-- gconst is ln 1 - 0.5 ln (2 pi) + 0.5 ln 1 - 0.5, as an f32; Σ⁻¹ M is 2, and Mᵗ Σ⁻¹ M 4
abbrev pub model_with : ℕ → TableLengths → Model
model_with dim z =
    model (record { opts = options; dims = dims dim; prior_offset = as_f64 1; tables = z })
    (tables_from (f32 0xbfb5_9fc7 ∷ []) (one₃₂ ∷ []) (one₃₂ ∷ []) (as_f64 2 ∷ []) (as_f64 4 ∷ []) (replicate dim one₃₂) (zero₃₂ ∷ [])
    (replicate dim (as_f64 50) ++ (as_f64 100 ∷ [])))

-- a base dimension from 1 to 64, tables of lengths z, and so much scratch: the model, or 8 where there is too little room
abbrev pub Loads : Type 0
Loads =
    (dim : ℕ) → 1 ≤ dim → dim ≤ 64 → (z : TableLengths) (scratch : ℕ)
    → load options (files dim) z scratch ≡ (if tables_fit options (dims dim) z && leb 2 scratch then read (model_with dim z) 0 else refused 8)

-- the lengths that the largest of them needs
abbrev pub largest : TableLengths
largest = lengths_from 1 1 1 1 1 64 1 65

abbrev pub LoadsInLargest : Type 0
LoadsInLargest = (dim : ℕ) → 1 ≤ dim → dim ≤ 64 → load options (files dim) largest 2 ≡ read (model_with dim largest) 0
