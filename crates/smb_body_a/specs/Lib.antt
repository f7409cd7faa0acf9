pub mod Negotiate
pub mod Session
pub mod Tree
pub mod Empty
