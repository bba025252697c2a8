-- Words of inner contracts; no promise rests on them.
pub mod Inner
-- byte_writer: what a call on a writer leaves.
pub mod Wrote
-- model_bytes: a model written back.
pub mod Written
pub mod Theorems
-- the code's types, as the definitions speak of them
pub mod Lent
-- words of inner contracts
pub mod Pieces
