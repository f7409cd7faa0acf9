pub mod Beneath
pub mod LastName
pub mod Renames
