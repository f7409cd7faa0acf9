mod Examples
pub mod CameLaws
pub mod OnceLaws
pub mod Readings
pub mod Turns
