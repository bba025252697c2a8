-- `numbers` meets its contract: a turn is `number_turn`, the end `number_end` (Bytes.antt).
use Rattle.writer.proofs.Chain.{wrote_none}
use Rattle.writer.specs.Written.{numbers_bytes}
use Rattle.writer.proofs.Bytes.{item_finite, number_room, number_turn, number_end}
use Rattle.writer.proofs.model_writer.numbers.Goals as goal

pub loop-x-init : goal.loop-x-init
unfolding numbers_bytes
loop-x-init g c = wrote_none c.args.w.now

pub number-requires-clause-room : goal.number-requires-clause-room
number-requires-clause-room g c = number_room g.W.Real.float g.W.Real.format c.args.xs.now c.loop-x.x-index c.x-item.result c.requires.room c.loop-x.invariant c.loop-x-test.true

pub number-requires-clause-judged : goal.number-requires-clause-judged
number-requires-clause-judged g c = item_finite g.W.Real.float c.loop-x.x-index c.args.xs.now c.x-item.result c.loop-x-test.true c.x-item.is c.requires.judged

pub loop-x-preserved : goal.loop-x-preserved
loop-x-preserved g c = number_turn g.W.Real.float g.W.Real.format c.args.xs.now c.loop-x.x-index c.x-item.result c.loop-x-test.true c.x-item.is c.loop-x.invariant c.number.ensures

pub returns : goal.returns
returns g c = number_end g.W.Real.float g.W.Real.format c.args.xs.now c.loop-x.x-index c.loop-x-test.false c.loop-x.invariant
