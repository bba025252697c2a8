-- A phone is less than 2 ^ 30, so it is its own reading as a signed number, and so is 0 less it (Phones.antt).
use Rattle.std.proofs.Common.{ap, ◌∙◌}
use Rattle.script.specs.Words.{phone_of}
use Rattle.script.proofs.Phones.{phone_minus, phone_plain}
use Rattle.script.proofs.words.I32Item.read.Goals as goal

pub returns-then-by-clause-item : goal.returns-then-by-clause-item
returns-then-by-clause-item c = phone_minus _ c.if-by.true ∙ ap phone_of c.signed-by.ensures.value

pub returns-else-by-clause-item : goal.returns-else-by-clause-item
returns-else-by-clause-item c = phone_plain _ c.if-by.false ∙ ap phone_of c.signed-by.ensures.value
