pub mod PartLaws
pub mod ChainLaws
pub mod Examples
