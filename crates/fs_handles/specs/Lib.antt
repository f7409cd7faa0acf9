pub mod Numbers
pub mod Opens
