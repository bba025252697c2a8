-- What is shown of the definitions: the scope's examples P1 to P12, computed; that a fetch depends only on what is held; lengths; that 18
-- never occurs.
pub mod Computed
pub mod Examples
pub mod Agree
pub mod Lengths
pub mod Batches
pub mod Ranges
pub mod Floor
