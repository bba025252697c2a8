-- Words of inner contracts.
pub mod Inner
-- silence_weighting: lists of calls on a table.
pub mod Chain
-- nearest_voice: whose voice it is.
pub mod Voice
-- trigger_steps: the round of an utterance, step by step. To be believed.
pub mod Round
pub mod Halts
-- trigger: what a round is given.
pub mod Lent
