-- The loop's invariant is `Left` (Lists.antt): what is left from call i on is what was to be done at first.
use mathlib.Core.Path.{◌≡◌}
use lib.ListN.{length}
use Rattle.definition.specs.Lent.{tables_in}
use Rattle.stream.specs.Stream.{program_of, SameRooms}
use Rattle.lists.specs.Listed.{written}
use Rattle.lists.proofs.Lists.{Left}
use Rattle.lists.proofs.run_calls.run.Given as goal

abbrev pub invariant-loop-i : goal.invariant-loop-i
invariant-loop-i l = record {
  left : Left l.list.kinds.now l.list.numbers.now l.list.lists.now l.list.samples.now (tables_in l.tables) (length l.fn.stream.scratch.now) (program_of l.initial.stream)
      (written l.initial.answers l.initial.outs) l.i (program_of l.stream) (written l.answers l.outs);
  scratch : length l.stream.scratch.now ≡ length l.fn.stream.scratch.now;
  rooms : SameRooms l.fn.stream l.stream;
}
