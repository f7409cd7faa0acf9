pub mod Chain
pub mod Content
pub mod SetAgain
mod Examples
