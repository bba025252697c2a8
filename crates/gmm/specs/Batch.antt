-- The sums of a batch in their rooms: the Gaussians in the order first seen, each with its weight and its weighted features.
use Rattle.std.specs.Prelude.{◌≡◌, ℕ, ◌+◌, ◌*◌, ◌<◌, ◌≤◌, List, length, take, slice_index, Float}
use Rattle.floats.specs.Operators.{◌*₃₂◌, ◌*₆₄◌, at}
use Rattle.floats.specs.Ln.{ln_narrow}
use Rattle.definition.specs.declared.FrameWeight.{FrameWeight}
use Rattle.definition.specs.declared.FrameWeight.TheVariants.{Weighed}
use Rattle.definition.specs.Posteriors.{Post}
use Rattle.definition.specs.Statistics.{Entry, seen, sum_for}
use Rattle.gmm.specs.Inner.Posteriors.{Fair}

-- a posterior of a frame whose raw feature row is given
abbrev pub entry_of : List Float → Post → Entry
entry_of raw p = record { gauss = p.0; value = p.1; feats = raw }

-- of one that is still to be scaled
abbrev pub scaled_entry : Float → List Float → Post → Entry
scaled_entry scale raw p = entry_of raw (p.0, p.1 *₃₂ scale)

-- what an entry adds to its Gaussian's weight, and to element a of its weighted features
abbrev pub weight : Entry → Float
weight e = e.value

abbrev pub feature : ℕ → Entry → Float
feature a e = e.value *₆₄ at e.feats a

-- rooms with a slot for each of n Gaussians; the first m are taken, by Gaussians below n, none of them twice
pub record Slots (n d m : ℕ) (gs : List ℕ) (tot sum : List Float) : Type 0 where
  pub seen_long : n ≤ length gs
  pub tot_long : n ≤ length tot
  pub sum_long : n * d ≤ length sum
  pub room : m ≤ n
  pub fair : Fair n m gs

-- the rooms hold the sums of the entries es over the batch: m Gaussians in the order first seen, the weight of each, and its weighted
-- features, d numbers each
pub record Sums (d : ℕ) (es : List Entry) (m : ℕ) (gs : List ℕ) (tot sum : List Float) : Type 0 where
  pub in_order : take m gs ≡ seen es
  pub weight_is : (k : ℕ) → k < m → at tot k ≡ sum_for es (slice_index gs k) weight
  pub features_are : (a : ℕ) → a < d → (k : ℕ) → k < m → at sum (k * d + a) ≡ sum_for es (slice_index gs k) (feature a)

-- ln is the logarithm of the frame's prune floor, where it is weighed
abbrev pub Logged : FrameWeight → Float → Type 0
Logged w ln = (floor scale : Float) → w ≡ Weighed floor scale → ln ≡ ln_narrow floor
