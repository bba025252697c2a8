pub mod BatchSumsRooms
pub mod DiagGmmRooms
pub mod Leading
pub mod LeadingRooms
pub mod Posteriors
pub mod PosteriorsRooms
