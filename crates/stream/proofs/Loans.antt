-- What calls one after the other leave: the record and the rooms that were lent; and where each leaves the rest as it was, all do.
use mathlib.Core.Path.{◌∙◌}
use Rattle.stream.specs.declared.stream_rooms.Stream.{Stream}
use Rattle.stream.specs.Stream.{SameRooms, Rest}

module _ {old now new : Stream} where
  pub still_lent : SameRooms old now → SameRooms now new → SameRooms old new
  still_lent a b =
      record {
        record_same = b.record_same ∙ a.record_same;
        frames_same = b.frames_same ∙ a.frames_same;
        rows_same = b.rows_same ∙ a.rows_same;
        waiting_frames_same = b.waiting_frames_same ∙ a.waiting_frames_same;
        waiting_weights_same = b.waiting_weights_same ∙ a.waiting_weights_same;
        cmvn_same = b.cmvn_same ∙ a.cmvn_same;
        linear_same = b.linear_same ∙ a.linear_same;
        quadratic_same = b.quadratic_same ∙ a.quadratic_same;
        current_same = b.current_same ∙ a.current_same;
        scratch_same = b.scratch_same ∙ a.scratch_same;
      }

  pub still_rest : Rest old now → Rest now new → Rest old new
  still_rest a b = record { estimate = b.estimate ∙ a.estimate; scratch = b.scratch ∙ a.scratch; loans = still_lent a.loans b.loans }
