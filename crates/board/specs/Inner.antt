pub mod RegisterBytes
