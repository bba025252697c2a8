-- Words of inner contracts.
pub mod Inner
-- register_bytes: a board with registers: its block, one step, and lists of steps. To be believed.
pub mod Board
