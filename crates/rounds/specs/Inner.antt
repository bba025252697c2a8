pub mod SilenceWeighting
pub mod SilenceWeightingRooms
