-- The loop's invariant is `Going` (Going.antt): what is left from call i on is what was to be tallied at first.
use mathlib.Core.Path.{◌≡◌}
use lib.ListN.{length, replicate}
use Rattle.definition.specs.Lent.{tables_in}
use Rattle.stream.specs.Stream.{program_of, SameRooms}
use Rattle.lists.specs.Inner.TryNotes.{tally}
use Rattle.lists.proofs.Going.{Going}
use Rattle.lists.proofs.try_play.play_calls.Given as goal

abbrev pub invariant-loop-i : goal.invariant-loop-i
invariant-loop-i l = record {
  going : Going l.dim l.seed l.times (tables_in l.tables) (program_of l.fn.stream) (length l.fn.stream.scratch.now) (tally (replicate 5 0) (replicate 34 0) 0)
      l.i (program_of l.stream) l.p (tally l.calls l.refusals l.greatest);
  scratch : length l.stream.scratch.now ≡ length l.fn.stream.scratch.now;
  rooms : SameRooms l.fn.stream l.stream;
}
