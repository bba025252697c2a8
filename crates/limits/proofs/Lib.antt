-- What the tests say when they pass, and laws for their code.
pub mod Listed
pub mod Ordered
pub mod Records
pub mod Rows
pub mod Within
