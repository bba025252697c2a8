-- `ln_sum` gives `ln_sum m e`, once `chain` gives its chain (`sum_is` in Logs.antt).
use Rattle.floats.proofs.Logs.{sum_is}
use Rattle.floats.proofs.ln_sum.Goals as goal

pub returns : goal.returns
returns c = sum_is c.args.m c.args.e c.chain-h.result c.chain-h.ensures
