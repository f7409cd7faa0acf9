pub mod EntryLaws
pub mod EntryWriting
mod Examples
pub mod Listing
