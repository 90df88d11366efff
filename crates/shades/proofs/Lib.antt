pub mod AnswerLaws
pub mod PairLaws
pub mod ShadeLaws
