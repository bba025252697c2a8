-- byte_writer: laws of what is written.
pub mod Chain
-- model_bytes: laws of the bytes, and the four theorems.
pub mod Encoding
pub mod Shapes
pub mod Reading
pub mod Fitting
pub mod Judged
pub mod Seven
pub mod Sound
pub mod Refuses
pub mod Differ
pub mod Loads
-- model_checks: laws of the files' lengths and of the refusals' order.
pub mod Lengths
pub mod Order
-- model_writer: laws of what is written.
pub mod Bytes
pub mod Call
