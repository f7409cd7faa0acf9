pub mod Steps
pub mod Units
pub mod Laws
pub mod Allowed
pub mod Examples
pub mod PathLaws
