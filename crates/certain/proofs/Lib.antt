pub mod LowestLaws
pub mod SearchLaws
pub mod FactLaws
pub mod StepLaws
pub mod WayLaws
pub mod AnswerLaws
pub mod MeaningLaws
pub mod WithoutSizes
