-- The loop's invariant of `linear::cgd_turns`: the rooms are those after the turns taken, none of them the last.
use mathlib.Core.Path.{◌≡◌}
use mathlib.Core.List.{List}
use Prim.Native.Nat.{◌+◌, ◌-◌, ◌≤◌, min}
use lib.ListN.{length}
use lib.Ieee.{Float}
use Rattle.loops.specs.Loop.{on}
use Rattle.algebra.specs.Inner.PackedMatrix.{square_of}
use Rattle.algebra.specs.Inner.Linear.{cgd_of}
use Rattle.algebra.proofs.Turns.{turns_from}
use Rattle.algebra.proofs.linear.cgd_turns.Given as goal

abbrev pub invariant-loop-before : goal.invariant-loop-before
invariant-loop-before l = record {
  most : l.t.k ≤ min (l.system.square.n + 5) l.max_iters;
  x_long : length l.x ≡ l.system.square.n;
  r_long : length l.r ≡ l.system.square.n;
  p_long : length l.p ≡ l.system.square.n;
  ap_long : length l.ap ≡ l.system.square.n;
  turns : (a : List Float) → l.system.square.cells.now ≡ square_of l.system.square.n a → on (cgd_of l.x l.r l.p l.t) ≡ turns_from a l.system.square.n l.system.b.now l.t.k (cgd_of l.initial.x l.initial.r l.initial.p l.initial.t);
}

abbrev pub decreases-loop-before : goal.decreases-loop-before
decreases-loop-before l = min (l.system.square.n + 5) l.max_iters - l.t.k
