-- A load's arguments as the definition has them, and its scratch.
use Rattle.std.specs.Prelude.{◌≡◌, List, ℕ, Float}
use Rattle.definition.specs.Reader.{Got, read, refused}
use Rattle.definition.specs.Model.{Model, Files}

abbrev pub files_of : List ℕ → List ℕ → List ℕ → List ℕ → Files
files_of gmm extractor lda cmvn = record { gmm = gmm; extractor = extractor; lda = lda; cmvn = cmvn }

-- a refusal leaves scratch as it was; after a load it is free
abbrev pub scratch_kept : Got Model → List Float → List Float → Type 0
scratch_kept (refused n) before after = after ≡ before
scratch_kept (read M at) before after = Unit {0}
