-- `delta_weights::insert_change` meets its contract: the places behind go up by one, and the change stands in the gap (`insert_frames`, `insert_weights`
-- in Inserted.antt).
use native.Mathlib.Omega.{arith}
use Prim.Native.Nat.{◌≤◌}
use lib.Seq.{length-take-le}
use Rattle.definition.specs.Changes.{Change}
use Rattle.stream.proofs.Inserted.{insert_frames, insert_weights}
use Rattle.stream.proofs.delta_weights.insert_change.Goals as goal

pub returns : goal.returns
returns c =
    let fs = c.args.frames.now in
    let change : Change = (c.args.frame, c.args.weight) in
    let pre = c.requires in
    let e = c.up_to-k.ensures in
    let k : c.up_to-k.result ≤ c.args.n = omega (arith, e.1, length-take-le c.args.n fs) in
    let moved = c.open_place.ensures in
    (insert_frames _ _ _ _ change k pre.order e.0 pre.frames moved.frames, insert_weights _ _ _ _ change k pre.order e.0 pre.frames pre.weights moved.weights)
