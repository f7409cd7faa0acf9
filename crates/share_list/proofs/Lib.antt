pub mod Begun
pub mod Indexed
pub mod Sorted
