-- The number in front is hexadecimal, and as many of its bits are kept as there are; no search is asked.
use Rattle.std.proofs.Common.{ℕ, ◌%◌, ap}
use Rattle.script.proofs.words.U8Item.read.Goals as goal

pub returns-clause-item : goal.returns-clause-item
returns-clause-item c = ap (λ (n : ℕ). n % 256) c.number.ensures.value

pub returns-clause-behind : goal.returns-clause-behind
returns-clause-behind c = c.number.ensures.behind
