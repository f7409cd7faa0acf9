pub mod Bodies
pub mod Judged
pub mod Answered
pub mod Sending
pub mod InFlight
pub mod Answers
