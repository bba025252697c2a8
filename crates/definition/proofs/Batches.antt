-- A batch in two parts: the second is fetched from the CMVN state that the first leaves, and its entries come behind the first's.
use mathlib.Core.Path.{◌≡◌, refl}
use mathlib.Core.List.{List, [], ◌∷◌, ◌++◌, append_assoc}
use lib.Ieee.{Float}
use Rattle.definition.specs.Model.{Model}
use Rattle.definition.specs.Views.{Frames, normalised_row}
use Rattle.definition.specs.Statistics.{Entry}
use Rattle.definition.specs.Changes.{Batch}
use Rattle.definition.specs.Estimate.{entries}

module _ (M : Model) (F : Frames) where
  abbrev state : Batch → List Float → List Float
  state bs c = (entries M F bs c).0

  abbrev gained : Batch → List Float → List Entry
  gained bs c = (entries M F bs c).1

  pub entries_state : (bs cs : Batch) (c : List Float) → state (bs ++ cs) c ≡ state cs (state bs c)
  unfolding entries
  entries_state [] cs c = refl
  entries_state (b ∷ bs) cs c = entries_state bs cs (normalised_row M.info.opts M.info.dims.base_dim M.tables.global_mean_stats F b.0 c).0

  pub entries_gained : (bs cs : Batch) (c : List Float) → gained (bs ++ cs) c ≡ gained bs c ++ gained cs (state bs c)
  unfolding entries
  entries_gained [] cs c = refl
  entries_gained (b ∷ bs) cs c =
      rw (entries_gained bs cs (normalised_row M.info.opts M.info.dims.base_dim M.tables.global_mean_stats F b.0 c).0) (simp append_assoc)
