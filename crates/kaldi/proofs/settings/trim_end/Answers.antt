-- `trim_end` meets its contract: what `take_while` counts from the back is std's `suffix_len` (`end_trimmed` in Lines.antt).
use Rattle.std.proofs.Common.{ℕ, ◌-◌, length, take, reverse, ap, ◌∙◌, rules, tests}
use Rattle.std.proofs.lemmas.Iterator.Adapters.{YieldsList-from_rev_slice}
use Rattle.std.proofs.lemmas.Iterator.Consumers.{count_from_yields_List}
use Rattle.std.proofs.lemmas.Iterator.Search.{YieldsList-from_take_while}
use Rattle.std.proofs.lemmas.List.Folds.{length-prefix_len}
use Rattle.definition.specs.Text.{space}
use Rattle.kaldi.proofs.Lines.{end_trimmed}
use Rattle.kaldi.proofs.settings.trim_end.Goals as goal

pub returns-clause-value : goal.returns-clause-value
returns-clause-value c =
    let s = c.args.s.now in
    let n = count_from_yields_List c.take_while.result _ c.count.ensures.ran
    (YieldsList-from_take_while _ space (YieldsList-from_rev_slice s cc) c.take_while.ensures.closure c.take_while.ensures.done (λ x b q k. search (rules, tests)))
    ∙ length-prefix_len space (reverse s) in
    ap (λ (k : ℕ). take (length s - k) s) n ∙ end_trimmed s
