-- `no_options` meets its contract: the default is all zeros, which is the definition's record.
use mathlib.Core.Path.{◌≡◌}
use Rattle.std.proofs.Common.{rules}
use Rattle.answers.specs.Answers.{no_options}
use Rattle.answers.proofs.no_options.Goals as goal

pub returns : goal.returns
returns c = let zeros : c.default.result ≡ no_options = search rules in zeros
