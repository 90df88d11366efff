pub mod OutcomeLaws
pub mod FieldLaws
pub mod StepLaws
pub mod ReadLaws
