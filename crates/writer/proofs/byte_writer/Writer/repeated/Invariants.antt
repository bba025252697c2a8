-- The loop's invariant of `Writer::repeated`: as many are written as there were turns.
use Rattle.loops.specs.Lists.{flat}
use Rattle.writer.specs.Wrote.{Wrote}
use Rattle.writer.proofs.byte_writer.Writer.repeated.Given as goal

abbrev pub invariant-loop : goal.invariant-loop
invariant-loop l = Wrote (flat l.counter (λ i. l.src)) l.initial.self l.self
