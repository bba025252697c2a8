-- The loop's invariant of `value_of`: the number so far with the digits that are left is, below the cap, the whole number.
use Prim.Native.Nat.{◌≤◌, min}
use lib.ListN.{drop}
use mathlib.Core.Path.{◌≡◌}
use Rattle.definition.specs.Text.{digits_value}
use Rattle.kaldi.proofs.kaldi_text.value_of.Given as goal

abbrev pub invariant-loop-b : goal.invariant-loop-b
invariant-loop-b l = record {
  capped : l.x ≤ l.cap;
  so_far : min (digits_value l.m l.digits) l.cap ≡ min (digits_value l.x (drop l.b-index l.digits)) l.cap;
}
