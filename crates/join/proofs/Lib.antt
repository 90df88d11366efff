pub mod PlacedLaws
pub mod JoinLaws
pub mod PieceLaws
pub mod BesideLaws
pub mod AnswerLaws
pub mod Leaves
