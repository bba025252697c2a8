-- diag_gmm: the log-likelihoods under the Gaussians, and the slices that they lie in.
use Rattle.std.specs.Prelude.{◌≡◌, List, Float, length}
use Rattle.definition.specs.Posteriors.{loglikes}
use Rattle.gmm.specs.declared.diag_gmm.gmm.DiagGmm.{DiagGmm}
use Rattle.gmm.specs.declared.diag_gmm.gmm.LikeRooms.{LikeRooms}

abbrev pub likes_of : DiagGmm → List Float → List Float
likes_of g x = loglikes g.num_gauss g.dim g.gconsts.now g.means_invvars_t.now g.inv_vars_t.now x

-- the rooms are still those that were lent, and as long
abbrev pub SameLikes : LikeRooms → LikeRooms → Type 0
SameLikes old new =
    (new.likes.ghost_name ≡ old.likes.ghost_name) × (new.squares.ghost_name ≡ old.squares.ghost_name)
    × (length new.likes.now ≡ length old.likes.now) × (length new.squares.now ≡ length old.squares.now)
