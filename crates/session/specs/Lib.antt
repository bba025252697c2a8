-- What a session by one call answers and leaves.
pub mod Session
