pub mod FinishedLaws
pub mod TwoBlocks
pub mod VerdictLaws
pub mod WithoutSizes
