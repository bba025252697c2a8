-- `leading::stays_at` meets its contract (`stays_is` in Comparing.antt).
use Rattle.gmm.proofs.Comparing.{stays_is}
use Rattle.gmm.proofs.leading.stays_at.Goals as goal

pub returns : goal.returns
returns c = stays_is c.args.v c.args.p c.requires
