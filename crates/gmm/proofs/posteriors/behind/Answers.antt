-- `posteriors::behind` meets its contract: the part goes to the list's end.
use native.Mathlib.Omega.{arith}
use Prim.Native.Nat.{◌-◌, ◌*◌}
use lib.ListN.{length, drop, length-drop}
use lib.Seq.{take_all}
use Rattle.gmm.proofs.posteriors.behind.Goals as goal

pub returns : goal.returns
returns c =
    let ls = c.args.loglikes.now in
    take_all (length ls - 8 * c.args.h) (drop (8 * c.args.h) ls) (omega (arith, length-drop (8 * c.args.h) ls))
