pub mod Counts
pub mod Endings
pub mod Request
pub mod Run
pub mod Tale
pub mod Verdict
