-- frame_views: laws of a stream's rooms.
pub mod Rings
pub mod Normalised
pub mod LdaSums
pub mod SplicedRows
-- delta_weights: laws of waiting changes in their rooms.
pub mod Inserted
pub mod Groups
-- ivector_batch: laws of a batch: its places, for the statistics too; its NaNs.
pub mod Places
mod Counted
-- ivector_update: laws of a batch's statistics, and the lent rooms.
mod Updated
mod Rooms
-- stream_refusals: laws of the calls' refusals, and of a push's stores.
pub mod Records
pub mod Refusals
pub mod Stored
-- ivector_stream: laws of the calls, one and several.
pub mod Replies
pub mod Taken
pub mod Loans
-- ivector_fetch: laws for the fetch.
pub mod Vector
pub mod FetchRefusals
mod Short
pub mod FetchSteps
