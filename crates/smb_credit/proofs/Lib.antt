pub mod WindowLaws
pub mod Examples
