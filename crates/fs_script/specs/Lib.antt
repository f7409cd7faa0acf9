pub mod Answers
pub mod Words
pub mod Numbers
pub mod Texts
pub mod Data
pub mod Choices
pub mod Calls
pub mod Lines
