-- table_sums: several turns at all places at once, and a pass that adds one to four rows; `rows_from` is for callers.
pub mod Passes
-- leading: the laws that the proofs of the functions cite. Those of the posteriors in rooms and of what a bound leaves out are for callers too, Sorting and Ordered for readers.
pub mod Comparing
pub mod Sorting
pub mod Ordered
pub mod Sieving
pub mod Ordering
pub mod Keeping
mod Sliding
pub mod Rooms
-- posteriors: the laws that the proofs of the functions cite. Apart and Selecting are for readers.
mod Maximum
pub mod Pruning
mod Gathering
mod Likely
mod Choosing
mod Counting
pub mod Apart
pub mod Selecting
mod Folds
-- diag_gmm: the laws that the proofs of the functions cite.
mod Likelihoods
-- batch_sums: laws that the proofs of the functions cite; those of Batches are for callers too.
pub mod Totals
pub mod Entries
pub mod Places
pub mod Slots
pub mod Batches
pub mod Rows
