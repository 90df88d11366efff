pub mod TurnLaws
pub mod InverseLaws
pub mod PuzzleLaws
pub mod BackLaws
pub mod StepLaws
pub mod ArrayLaws
pub mod AnswerLaws
pub mod Leaves
