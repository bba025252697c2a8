-- `trim` meets its contract: the blanks in front are skipped, and those at the end left off (`trim_is` in Lines.antt).
use Rattle.std.proofs.Common.{◌∙◌}
use Rattle.kaldi.proofs.Lines.{trim_is}
use Rattle.kaldi.proofs.settings.trim.Goals as goal

pub returns-clause-value : goal.returns-clause-value
returns-clause-value c = c.trim_end.ensures.value ∙ trim_is c.args.s.now c.spaces_len.ensures.value
