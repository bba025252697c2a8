-- Floats: operators, and the functions that the Rust takes from its standard library. `Inner` has words of inner contracts, on which no promise rests.
pub mod Operators
pub mod Narrow
pub mod Sqrt
pub mod Ln
pub mod Exp
pub mod Extremes
pub mod Decimal
pub mod Real
pub mod Inner
