-- "The stream and the keeping machine": weight changes (`update_frame_weights`), and the batch of frames that a fetch brings into the statistics.
use Rattle.std.specs.Prelude.{ℕ, ◌+◌, ◌-◌, max, Bool, true, length, get_or, eqb, leb, ltb, Float, if◌then◌else◌}
use mathlib.Core.List.{List, [], ◌∷◌, map, foldl}
use Rattle.loops.specs.Lists.{build, those}
use Rattle.floats.specs.Operators.{◌+₃₂◌, at}
use Rattle.definition.specs.declared.IvectorOptions.{IvectorOptions}
use Rattle.definition.specs.declared.FrameWeight.{FrameWeight}
use Rattle.definition.specs.Posteriors.{weighed, unweighted}

-- a frame, and by how much its weight changes
abbrev pub Change : Type 0
Change = ℕ × Float

pub record Changes : Type 0 where
  pub waiting : List Change  -- by frame, then in the order given
  pub past_highest : ℕ  -- one more than the highest frame ever changed, 0 at first
  pub called : Bool  -- whether a change call, even empty, was taken

-- behind those of its own frame and of lower ones
unfoldable pub insert_change : List Change → Change → List Change
insert_change [] c = c ∷ []
insert_change (d ∷ ds) c = let rest = insert_change ds c in if leb d.0 c.0 then d ∷ rest else c ∷ d ∷ ds

-- after a change call that is taken
unfoldable pub changed : Changes → List ℕ → List Float → Changes
changed c fs ws =
    let given : List Change = build (length fs) (λ i. (get_or fs i 0, at ws i)) in
    record { waiting = foldl insert_change c.waiting given; past_highest = foldl (λ n f. max n (f + 1)) c.past_highest fs; called = true }

-- after a fetch that brought in the changes up to frame f
unfoldable pub reached : Changes → ℕ → Changes
reached c f = record { waiting = those (λ d. ltb f d.0) c.waiting; past_highest = c.past_highest; called = c.called }

-- changes by frame, each frame's own summed in their order: those after one of frame t with sum w
unfoldable pub merged_from : ℕ → Float → List Change → List Change
merged_from t w [] = (t, w) ∷ []
merged_from t w (c ∷ cs) =
    let rest = merged_from c.0 (if eqb c.0 t then w +₃₂ c.1 else c.1) cs in
    if eqb c.0 t then rest else (t, w) ∷ rest

unfoldable pub merged : List Change → List Change
merged [] = []
merged (c ∷ cs) = merged_from c.0 c.1 cs

abbrev pub Batch : Type 0
Batch = List (ℕ × FrameWeight)

-- what a fetch of f brings in: frames next .. f, or, once a change call was taken, those with changes up to f
unfoldable pub batch : IvectorOptions → Changes → ℕ → ℕ → Batch
batch o c next f =
    if c.called then map (λ d. (d.0, weighed o d.1)) (merged (those (λ d. leb d.0 f) c.waiting))
    else build (f + 1 - next) (λ i. (next + i, unweighted o))
