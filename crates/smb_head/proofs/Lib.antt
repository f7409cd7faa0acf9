pub mod HeadLaws
pub mod FrameLaws
pub mod StreamLaws
pub mod Examples
