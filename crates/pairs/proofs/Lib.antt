pub mod PairSearch
pub mod FourthLaws
