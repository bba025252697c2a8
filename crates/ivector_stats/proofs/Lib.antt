-- Laws that the proofs of the functions cite.
pub mod Gaussians
pub mod Rescaling
mod Diagonal
mod Fresh
mod Solving
