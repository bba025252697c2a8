-- `digits_len` meets its contract: std's `take_while` and `count` are `prefix_len`, which is the definition's `run` (Runs.antt).
use Rattle.std.proofs.Common.{◌∙◌, rules, tests}
use Rattle.std.proofs.lemmas.Iterator.{YieldsList-from_slice}
use Rattle.std.proofs.lemmas.Iterator.Consumers.{count_from_yields_List}
use Rattle.std.proofs.lemmas.Iterator.Search.{YieldsList-from_take_while}
use Rattle.std.proofs.lemmas.List.Folds.{length-prefix_len}
use Rattle.definition.specs.Options.{within}
use Rattle.kaldi.proofs.TextRuns.{run-prefix}
use Rattle.kaldi.proofs.kaldi_text.digits_len.Goals as goal

pub returns-clause-value : goal.returns-clause-value
returns-clause-value c =
    count_from_yields_List c.take_while.result _ c.count.ensures.ran
    (YieldsList-from_take_while _ (within 48 57) (YieldsList-from_slice c.args.s.now cc) c.take_while.ensures.closure c.take_while.ensures.done (λ x b q k. search (rules, tests)))
    ∙ length-prefix_len (within 48 57) c.args.s.now
    ∙ run-prefix (within 48 57) c.args.s.now
