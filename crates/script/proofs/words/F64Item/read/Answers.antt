-- Its bits are the hexadecimal number in front, which is passed; no search is asked.
use Rattle.std.proofs.Common.{ℕ, ap, ◌∙◌}
use Rattle.std.specs.Float.{binary64}
use Rattle.std.specs.Float.Ieee.{of_bits}
use Rattle.script.proofs.words.F64Item.read.Goals as goal

pub returns-clause-item : goal.returns-clause-item
returns-clause-item c = c.double.ensures ∙ ap (λ (n : ℕ). of_bits binary64 n) c.number.ensures.value

pub returns-clause-behind : goal.returns-clause-behind
returns-clause-behind c = c.number.ensures.behind
