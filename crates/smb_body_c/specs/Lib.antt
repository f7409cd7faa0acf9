pub mod Directory
pub mod Error
pub mod Info
pub mod Lease
pub mod Lock
