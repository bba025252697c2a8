-- Words of inner contracts.
pub mod Inner
-- run_calls: a list of calls given as slices, and where its answers are written.
pub mod Listed
pub mod Coded
-- run_calls: words of inner contracts.
pub mod Turns
-- try_load: the generator and what it draws, the program's input. To be believed.
pub mod Draws
pub mod Exact
pub mod Input
-- try_play: the totals over a list of calls and its answers, and what is claimed of them. To be believed.
pub mod Totals
pub mod Theorems
-- try_model: the options of example P9, and the files of its model with a base dimension; that they load. To be believed.
pub mod Files
pub mod Loads
