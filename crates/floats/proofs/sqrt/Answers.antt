-- `sqrt` gives `square_root x`: the library's root, of an x that an f64 holds, is that (`sqrt_is` in Library.antt). That it is correctly rounded is
-- shown in Correct.antt.
use Rattle.std.proofs.Common.{◌∙◌}
use denote.Floats.{passes}
use Rattle.floats.proofs.Library.{sqrt_is}
use Rattle.floats.proofs.sqrt.Goals as goal

pub returns : goal.returns
returns c = c.sqrt.ensures.value ∙ sqrt_is c.args.x (passes _ c.well_formed.0.1)
