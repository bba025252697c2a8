-- `rooms_of` meets its contract: a stream has room for one frame at least.
use Rattle.std.proofs.Common.{◌≡◌, rules}
use Rattle.std.specs.Range.{range_inclusive_start}
use Rattle.loops.specs.Refusal.{first_of}
use Rattle.model.specs.Memory.{rooms_needed}
use Rattle.model.proofs.memory.rooms_of.Goals as goal

pub returns : goal.returns
unfolding first_of rooms_needed
returns c =
    let one : range_inclusive_start c.new.result ≡ 1 = c.new.ensures.start in
    search rules
