mod ProblemLaws
pub mod ReadingLaws
mod EndLaws
