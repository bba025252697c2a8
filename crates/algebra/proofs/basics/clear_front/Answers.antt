-- `basics::clear_front` meets its contract: n zeros at the front, and the rest behind them (`over_front` in loops/proofs/Std.antt).
use Rattle.loops.proofs.Std.{over_front}
use Rattle.algebra.proofs.basics.clear_front.Goals as goal

pub returns : goal.returns
returns c = over_front _ _ _ _ c.requires (c.fill.ensures.after (λ y e. e))
