-- ivector_update: words of inner contracts, what an update asks of its slices.
use Rattle.std.specs.Prelude.{ℕ, ◌+◌, ◌*◌, ◌≤◌, ◌<◌, ◌≡◌, length, Float}
use Rattle.definition.specs.Kaldi.{triangle}
use Rattle.definition.specs.Estimate.{Estimate}
use Rattle.program.specs.Rooms.{EstimateRooms}
use Rattle.ivector_stats.specs.Inner.{stats_in}
use Rattle.stream.specs.declared.ivector_batch.batch.FetchBatch.{FetchBatch}
use Rattle.stream.specs.declared.ivector_update.GaussianRooms.{GaussianRooms}

-- what rooms hold that are as long as the model's vectors
abbrev pub learnt : Float → EstimateRooms → Estimate
learnt n z = record { cmvn = z.cmvn; stats = stats_in n z.linear z.quadratic; current = z.current }

-- what the statistics and their solve ask besides what a batch does: the other two tables, rooms that are as long as the model's vectors, and
-- scratch of n numbers
pub record Solvable (b : FetchBatch) (z : EstimateRooms) (n : ℕ) : Type 0 where
  pub some : 0 < b.info.dims.ivector_dim
  pub few : b.info.dims.ivector_dim ≤ 128
  pub sigma_fits : b.info.dims.num_gauss * (b.info.dims.feat_dim * b.info.dims.ivector_dim) ≤ length b.tables.sigma_inv_m.now
  pub u_fits : b.info.dims.num_gauss * triangle b.info.dims.ivector_dim ≤ length b.tables.u.now
  pub cmvn_long : length z.cmvn ≡ b.info.dims.base_dim + 1
  pub linear_long : length z.linear ≡ b.info.dims.ivector_dim
  pub quadratic_long : length z.quadratic ≡ triangle b.info.dims.ivector_dim
  pub current_long : length z.current ≡ b.info.dims.ivector_dim
  pub sums_fit : b.info.dims.num_gauss * b.info.dims.feat_dim ≤ n
  pub factor_fits : b.info.dims.ivector_dim * b.info.dims.ivector_dim ≤ n

-- a number for each of n Gaussians
abbrev pub RoomsFit : ℕ → GaussianRooms → Type 0
RoomsFit n r = (length r.likes.now ≡ n) × (length r.squares.now ≡ n) × (length r.seen.now ≡ n) × (length r.tot.now ≡ n)

-- the slices are still those that were lent
abbrev pub SameRooms : GaussianRooms → GaussianRooms → Type 0
SameRooms old new =
    (new.likes.ghost_name ≡ old.likes.ghost_name) × (new.squares.ghost_name ≡ old.squares.ghost_name)
    × (new.seen.ghost_name ≡ old.seen.ghost_name) × (new.tot.ghost_name ≡ old.tot.ghost_name)
