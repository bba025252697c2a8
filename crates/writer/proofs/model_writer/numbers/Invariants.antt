-- The loop's invariant of `numbers`: the numbers before an item are written (`Numbered` in Bytes.antt).
use Rattle.writer.proofs.Bytes.{Numbered}
use Rattle.writer.proofs.model_writer.numbers.Given as goal

abbrev pub invariant-loop-x : goal.invariant-loop-x
invariant-loop-x g l = Numbered g.W.Real.float g.W.Real.format l.xs l.x-index l.initial.w l.w
