-- The exported answers: records in place of enums.
pub mod Answers
