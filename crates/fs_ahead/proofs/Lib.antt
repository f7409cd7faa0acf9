mod Coming
pub mod Keeping
pub mod Progressing
pub mod Examples
