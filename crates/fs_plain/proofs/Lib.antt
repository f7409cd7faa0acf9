pub mod Frames
mod HonestStory
mod EdgeStories
mod BrokenStories
pub mod PlainTree
pub mod Deeds
pub mod Steps
pub mod Every
pub mod Opens
pub mod Identity
pub mod Carried
pub mod SameLaws
pub mod Dropping
pub mod Cutting
pub mod Programs
pub mod AlikeLaws
pub mod Whole
pub mod ShareLaws
