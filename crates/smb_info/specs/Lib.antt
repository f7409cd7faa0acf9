pub mod Attributes
pub mod Change
pub mod Directory
pub mod Reading
pub mod Space
