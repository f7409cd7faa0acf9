pub mod Calls
pub mod Related
pub mod Ends
pub mod Faultless
