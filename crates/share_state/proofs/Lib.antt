mod Examples
mod NameExamples
mod ListExamples
mod Rows
mod DataExamples
pub mod Plainly
pub mod Most
pub mod SentLaws
pub mod Renaming
pub mod Edited
pub mod Written
