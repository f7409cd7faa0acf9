pub mod Lists
pub mod Flights
pub mod Chains
pub mod StatChain
pub mod Landing
pub mod Frames
pub mod Begins
pub mod Marks
pub mod Answers
pub mod Connections
pub mod Sends
pub mod Stays
pub mod Spellings
pub mod Stories
pub mod Comings
mod WrongClients
pub mod Keeping
pub mod Steps
pub mod Taken
pub mod Bodies
pub mod Mounts
pub mod SpelledLaws
pub mod Ids
mod Unmarked
pub mod Judging
pub mod Commands
pub mod Readiness
