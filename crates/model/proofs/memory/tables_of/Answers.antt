-- `tables_of` meets its contract: options out of range are 1.
use Rattle.std.proofs.Common.{◌≡◌, not, [], ◌∷◌, rules}
use Rattle.loops.specs.Refusal.{first_of}
use Rattle.definition.specs.Number.{number_of}
use Rattle.model.specs.Memory.{tables_needed}
use Rattle.model.proofs.memory.tables_of.Goals as goal

pub returns-in_err-need : goal.returns-in_err-need
unfolding first_of tables_needed
returns-in_err-need c =
    let told : number_of c.in_err-need.field-0.0 ≡ first_of ((not c.options_in_range.result, 1) ∷ []) = c.in_err-need.ensures in
    search rules
