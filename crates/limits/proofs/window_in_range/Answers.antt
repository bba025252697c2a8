-- `window_in_range` meets its contract: what the range answers is `within` (`inside` in Within.antt); no search is asked.
use Rattle.definition.specs.Options.{max_window}
use Rattle.limits.proofs.Within.{inside}
use Rattle.limits.proofs.window_in_range.Goals as goal

pub returns : goal.returns
returns c = inside 1 max_window c.args.n c.new.ensures.start c.new.ensures.end c.new.ensures.exhausted c.contains.ensures.value
