-- `packed_matrix::copy` meets its contract: all places are filled with x's, which are x (`build_list`).
use mathlib.Core.Path.{◌∙◌}
use native.Mathlib.Omega.{arith}
use lib.Ieee.{nan}
use Rattle.loops.proofs.Build.{build_list}
use Rattle.algebra.proofs.Rooms.{filled}
use Rattle.algebra.proofs.packed_matrix.copy.Goals as goal

pub returns : goal.returns
returns c = filled _ _ _ _ c.loop-i.invariant.most (omega arith) c.requires c.loop-i.invariant.filled ∙ build_list nan _
