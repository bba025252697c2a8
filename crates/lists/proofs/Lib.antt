-- run_calls: every list of calls has slices that give it; parts of slices as code has them; what a call of each kind leaves; what is left of a list
-- after one of its calls; the ways out of a run.
pub mod Coded
pub mod Cut
pub mod Branches
pub mod Lists
pub mod Runs
-- try_load: the first result; the rule's exactness; laws of draws and refusals; the place between two calls; the input.
pub mod Seed
pub mod Exact
pub mod Steps
pub mod Places
pub mod Inputs
-- try_notes: counts with one more; the call that is drawn.
pub mod Counted
mod Drawn
-- try_play: counts by tally; the kind of a drawn call; the loop over the calls; the ways out; that no refusal is left out; filled lists as calls.
pub mod Tallies
pub mod DrawnKind
pub mod Going
pub mod Played
pub mod Numbers
pub mod Decoded
-- try_model: how long the CMVN text is; the text, read; that the model loads.
pub mod Lengths
pub mod Sums
pub mod Loads
