-- delta_weights: words of inner contracts.
use Rattle.std.specs.Prelude.{ℕ, Float}
use mathlib.Core.List.{List, foldl}
use Rattle.definition.specs.Changes.{Change, insert_change}
use Rattle.program.specs.Rooms.{waiting_in}

-- the first m changes that a call gives, inserted
unfoldable pub inserted_to : ℕ → List ℕ → List Float → List Change → List Change
inserted_to m frames weights waiting = foldl insert_change waiting (waiting_in m frames weights)
