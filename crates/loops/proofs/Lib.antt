-- The laws of the vocabulary.
pub mod Loop
pub mod Leave
pub mod From
pub mod Choose
pub mod Cells
pub mod Build
pub mod Fill
pub mod Refusal
pub mod Ring
pub mod Flat
pub mod Triangle
pub mod Columns
pub mod Parts
pub mod Tests
pub mod Std
pub mod Folds
pub mod Comparing
