-- What is promised, in reading order. All of it is to be believed, and computes; `crates/loops/specs` and `crates/floats/specs` come before it.
-- Comments cite the scope's sections by their headings.
pub mod Number
pub mod Options
pub mod Reader
pub mod Kaldi
pub mod Text
pub mod Model
pub mod Lent
pub mod Views
pub mod Posteriors
pub mod Statistics
pub mod Solve
pub mod Changes
pub mod Estimate
pub mod Machine
pub mod Stream
pub mod Silence
