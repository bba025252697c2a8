-- `fill_global` meets its contract: the row fills the front of the room, and what is past it stays (`front_over` in Rows.antt).
use Rattle.std.proofs.Common.{arith}
use Rattle.model.proofs.Rows.{front_over}
use Rattle.model.proofs.ivector_tables.fill_global.Goals as goal

pub returns : goal.returns
returns c = front_over c.args.len _ _ _ (omega arith) c.split_at_mut-front.ensures.back c.fill_row.ensures
