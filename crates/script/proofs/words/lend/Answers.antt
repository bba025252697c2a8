-- Cut at the smaller of both counts, it is the room's front (`take_min`).
use Rattle.std.proofs.Common.{ℕ, take, ap, ◌∙◌}
use Rattle.std.proofs.lemmas.List.{take_min}
use Rattle.script.proofs.words.lend.Goals as goal

pub returns : goal.returns
returns g c = ap (λ (k : ℕ). take k c.args.room.now) c.min-n.ensures ∙ take_min _ _
