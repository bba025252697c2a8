-- `ivector_stream::lowest` meets its contract: in frames in order the first is the lowest.
use mathlib.Core.Path.{ap, ◌∙◌}
use Prim.Native.Nat.{min}
use Rattle.stream.proofs.Taken.{lowest_first}
use Rattle.stream.proofs.ivector_stream.lowest.Goals as goal

pub returns-in-Some : goal.returns-in-Some
returns-in-Some c =
    let item = c.in-Some.ensures.item.3 in lowest_first c.args.low c.args.frames.now item.0 c.requires (c.min.ensures ∙ ap (min c.args.low) (item.1 0))
