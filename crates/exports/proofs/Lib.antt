-- Laws of a load with settings, of the parameters that are lent and of a fresh stream; then what is shown of the calls by their contracts.
pub mod WithSettings
pub mod Params
pub mod Fresh
pub mod Chain
pub mod Kept
