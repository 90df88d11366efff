pub mod Writing
pub mod DigitLaws
pub mod ReadLaws
pub mod PushLaws
pub mod LiteralLaws
pub mod Codes
pub mod ToldLaws
