pub mod ListLaws
mod TallyLaws
pub mod ComparisonLaws
mod WrittenLaws
