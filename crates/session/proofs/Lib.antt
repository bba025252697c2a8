-- How a session ends.
pub mod Ends
