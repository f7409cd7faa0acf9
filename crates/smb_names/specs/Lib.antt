pub mod WireName
pub mod WireSteps
pub mod Path
