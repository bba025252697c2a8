-- `exp_narrow` gives `exp_of x`: 0 below -104 (`exp_low`), else what it is lent, narrowed (`exp_else`, Series.antt).
use Rattle.floats.proofs.Series.{exp_low, exp_else}
use Rattle.floats.proofs.exp_narrow.Goals as goal

pub returns-then-x : goal.returns-then-x
returns-then-x c = exp_low c.args.x c.if-x.true

pub returns : goal.returns
returns c = exp_else c.args.x c.args.wide c.narrow.result c.if-x.false c.requires c.narrow.ensures
