pub mod StepLaws
pub mod HeadLaws
pub mod LentLaws
