-- The loop's invariant of `value`: the first line with the key is among those from `at` on.
use mathlib.Core.Path.{◌≡◌}
use Prim.Native.Nat.{◌+◌, ◌-◌}
use lib.ListN.{length}
use Rattle.kaldi.specs.Settings as S
use Rattle.kaldi.specs.Settings.{lines}
use Rattle.kaldi.specs.Inner.Settings.{lines_from}
use Rattle.kaldi.proofs.settings.value.Given as goal

abbrev pub invariant-loop-at : goal.invariant-loop-at
invariant-loop-at l = S.value l.key (lines l.s) ≡ S.value l.key (lines_from l.s l.at)

abbrev pub decreases-loop-at : goal.decreases-loop-at
decreases-loop-at l = length l.s + 1 - l.at
