-- The exported answers of the settings and of calls on a silence table: records in place of enums.
pub mod Answers
-- what is shown of the exported calls: chains of those on a stream, and what a refusal leaves
pub mod Chain
pub mod Kept
