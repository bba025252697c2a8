-- `delta_weights::update_frame_weights` meets its contract: the changes are inserted, and the highest frame is counted with them.
use Rattle.definition.specs.Changes.{changed}
use Rattle.program.specs.Rooms.{waiting_in}
use Rattle.stream.specs.Inner.DeltaWeights.{inserted_to}
use Rattle.stream.proofs.delta_weights.update_frame_weights.Goals as goal

pub returns-clause-changes : goal.returns-clause-changes
unfolding changed inserted_to waiting_in
returns-clause-changes c = c.insert_changes.ensures

pub returns-clause-past_highest : goal.returns-clause-past_highest
unfolding changed
returns-clause-past_highest c = c.past_highest_of.ensures
