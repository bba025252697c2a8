-- `fill_column` meets its contract: behind its loop each number is in its place.
use Rattle.std.proofs.Common.{◌∙◌, ◌+◌, ◌*◌, ap, arith}
use lib.Ieee.{nan, binary32}
use Rattle.loops.proofs.Build.{build_is}
use Rattle.floats.specs.Operators.{at}
use Rattle.definition.specs.Reader.{numbers}
use Rattle.model.proofs.ivector_tables.fill_column.Goals as goal

pub returns : goal.returns
returns g c =
    let m = c.args.block.now in
    build_is nan _ _ _ (c.loop-r.auto.out ∙ c.requires.room)
    (λ k h. c.loop-r.invariant k (omega arith) ∙ ap (λ f. at (numbers binary32 f m.numbers.count m.numbers.bytes.now) (k * m.cols + c.args.c)) c.requires.written)
