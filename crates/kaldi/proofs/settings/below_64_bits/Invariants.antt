-- The loop's invariant of `below_64_bits`: the digits that are left, behind x, make the number of them all.
use mathlib.Core.Path.{◌≡◌}
use Prim.Native.Nat.{◌^◌, ◌<◌}
use lib.ListN.{drop}
use Rattle.definition.specs.Text.{digits_value}
use Rattle.kaldi.proofs.settings.below_64_bits.Given as goal

abbrev pub invariant-loop-b : goal.invariant-loop-b
invariant-loop-b l = record { fits : l.x < 2 ^ 64; so_far : digits_value 0 l.digits ≡ digits_value l.x (drop l.b-index l.digits) }
