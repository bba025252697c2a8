-- ivector_tables: laws of the tables.
mod Gmm
mod Rows
mod Again
-- ivector_info: laws of the load.
pub mod Files
mod Judging
mod Tables
-- memory: `Sized`: a load beside the dimensions of its files. `Exact`: lengths that are enough, and that none shorter are. `Needed`: the ways out of the calls.
pub mod Sized
pub mod Exact
pub mod Needed
