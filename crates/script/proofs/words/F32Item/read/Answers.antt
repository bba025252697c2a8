-- Its bits are the hexadecimal number in front, which is passed; no search is asked.
use Rattle.std.proofs.Common.{ℕ, ◌%◌, ◌^◌, ap, ◌∙◌}
use Rattle.std.specs.Float.{binary32}
use Rattle.std.specs.Float.Ieee.{of_bits}
use Rattle.script.proofs.words.F32Item.read.Goals as goal

pub returns-clause-item : goal.returns-clause-item
returns-clause-item c = c.float.ensures ∙ ap (λ (n : ℕ). of_bits binary32 (n % 2 ^ 32)) c.number.ensures.value

pub returns-clause-behind : goal.returns-clause-behind
returns-clause-behind c = c.number.ensures.behind
