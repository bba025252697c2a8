-- Words of contracts: the terms after some slots, and the statistics in their slices.
pub mod Inner
pub mod Rooms
