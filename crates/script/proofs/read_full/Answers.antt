-- Each turn's bytes stand behind those before (`reading`, Reading.antt).
use Rattle.std.proofs.Common.{rules}
use Rattle.script.proofs.Reading.{reading}
use Rattle.script.proofs.read_full.Goals as goal

pub loop-n-preserved : goal.loop-n-preserved
loop-n-preserved g c =
    (search rules, reading _ _ _ _ _ _ _ _ c.loop-n.invariant.0 c.in_ok-read.ensures.bound.0 c.loop-n.invariant.1 c.in_ok-read.ensures.bytes.0)
