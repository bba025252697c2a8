pub mod Linear
pub mod PackedMatrix
