-- register_bytes: laws of the block's bytes, of the room for a push and of a command.
pub mod Bytes
pub mod Room
pub mod Commands
-- registers: what is shown of every list of steps.
pub mod Lists
