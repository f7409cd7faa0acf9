pub mod Close
pub mod Create
pub mod Flush
pub mod Read
pub mod Write
pub mod Contexts
