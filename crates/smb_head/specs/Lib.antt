pub mod Header
pub mod Stream
