pub mod TailLaws
pub mod FileLaws
pub mod AnswerLaws
pub mod Leaves
