-- The loop's invariant: the rooms hold the first i changes inserted, in order.
use Prim.Native.Nat.{◌-◌, ◌≤◌}
use Rattle.stream.specs.Waiting.{Holds}
use Rattle.stream.proofs.Inserted.{Now}
use Rattle.stream.proofs.delta_weights.insert_changes.Given as goal

abbrev pub invariant-loop-i : goal.invariant-loop-i
invariant-loop-i l =
    let o = l.initial in record { few : l.i ≤ l.m; changes : Holds (Now l.delta_frames l.delta_weights l.n o.frames o.weights l.i) o.frames o.weights l.frames l.weights }

abbrev pub decreases-loop-i : goal.decreases-loop-i
decreases-loop-i l = l.m - l.i
