-- A stream in the definitions' words, and what a call on it leaves.
pub mod Stream
-- Words of inner contracts.
pub mod Inner
-- frame_views: the views of a frame.
pub mod Rows
-- delta_weights: the waiting changes, as a change call finds them.
pub mod Waiting
-- ivector_batch: what a batch of frames adds.
pub mod Fetched
