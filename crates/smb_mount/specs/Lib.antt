pub mod Kept
pub mod Tokens
pub mod Requests
pub mod Replies
pub mod Verdicts
