-- Words of inner contracts; no promise rests on them.
pub mod Inner
-- table_sums: what a closure gives of a number, and a row of a table.
pub mod Factor
-- diag_gmm: the lengths of the tables.
pub mod Fits
-- batch_sums: the sums of a batch in their slots.
pub mod Batch
