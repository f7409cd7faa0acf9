pub mod Fields
pub mod Body
pub mod Faults
pub mod TwoParts
pub mod Structure
pub mod Rows
