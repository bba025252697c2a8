-- Invariant: behind what was known to be written stand as many texts as items are printed, each behind a space.
use Rattle.std.proofs.Common.{◌≡◌, List, ℕ, length}
use Rattle.std.specs.Io.KnownBytes.{Appends}
use Rattle.script.specs.Lines.{spaced}
use Rattle.script.proofs.pattern.print_list.Given as goal

abbrev pub invariant-loop-x : goal.invariant-loop-x
invariant-loop-x g l =
    (all : List (List ℕ)) × (length all ≡ l.x-index) × Appends (g.W.Write.contents l.initial.writer) (g.W.Write.contents l.writer) (spaced all)
