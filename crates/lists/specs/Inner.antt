pub mod TryLoad
pub mod TryNotes
pub mod TryPlay
