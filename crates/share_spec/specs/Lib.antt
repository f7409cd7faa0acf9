pub mod Endings
pub mod Gone
