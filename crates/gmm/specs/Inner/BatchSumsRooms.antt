-- batch_sums: what the slices of the running sums hold.
use Rattle.std.specs.Prelude.{◌≡◌, ℕ, List, ◌++◌, length}
use Rattle.definition.specs.Statistics.{Entry}
use Rattle.gmm.specs.declared.batch_sums.RunningSums.{RunningSums}
use Rattle.gmm.specs.Batch.{Slots, Sums}

-- a slot for each of n Gaussians of d dimensions; as many as were seen are taken
abbrev pub SlotsIn : ℕ → ℕ → RunningSums → Type 0
SlotsIn n d z = Slots n d z.count z.seen.now z.tot.now z.sum.now

-- the sums of the entries es over the batch
abbrev pub SumsIn : ℕ → List Entry → RunningSums → Type 0
SumsIn d es z = Sums d es z.count z.seen.now z.tot.now z.sum.now

-- the sums that they held, and the entries es besides
abbrev pub Grown : ℕ → ℕ → List Entry → RunningSums → RunningSums → Type 0
Grown n d es old new = SlotsIn n d new × ((before : List Entry) → SumsIn d before old → SumsIn d (before ++ es) new)

-- they are still those that were lent, and as long
abbrev pub SameSums : RunningSums → RunningSums → Type 0
SameSums old new =
    (new.seen.ghost_name ≡ old.seen.ghost_name) × (new.tot.ghost_name ≡ old.tot.ghost_name) × (new.sum.ghost_name ≡ old.sum.ghost_name)
    × (length new.seen.now ≡ length old.seen.now) × (length new.tot.now ≡ length old.tot.now) × (length new.sum.now ≡ length old.sum.now)
