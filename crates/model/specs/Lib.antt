-- Words of inner contracts; no promise rests on them.
pub mod Inner
-- ivector_tables: an extractor whose readers are at the next Gaussian's blocks.
pub mod Next
-- ivector_info: what a load is given, in the definition's terms.
pub mod Load
-- memory: how much memory a model and a stream need.
pub mod Memory
-- words of inner contracts
pub mod Answered
