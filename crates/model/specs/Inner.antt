pub mod IvectorInfo
pub mod IvectorTables
