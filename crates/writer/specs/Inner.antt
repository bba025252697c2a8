pub mod ModelChecks
