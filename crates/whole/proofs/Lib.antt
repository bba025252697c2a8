-- Parsers taken apart, what is known of a loaded model, then the claims of specs/.
pub mod Parsed
pub mod Loaded
pub mod Whole
pub mod Witness
