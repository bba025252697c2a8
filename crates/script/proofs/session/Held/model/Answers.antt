-- By what is open; no search is asked.
use Rattle.std.proofs.Common.{ap, sym}
use Rattle.script.specs.Session.{model_of}
use Rattle.script.proofs.session.Held.model.Goals as goal

pub returns-in-Model : goal.returns-in-Model
returns-in-Model c = ap model_of (sym c.in-Model.is)

pub returns-in-Stream : goal.returns-in-Stream
returns-in-Stream c = ap model_of (sym c.in-Stream.is)
