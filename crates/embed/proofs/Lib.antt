pub mod EmbedLaws
pub mod ByPlace
pub mod ArrowLaws
pub mod InverseLaws
