pub mod ArrayTests
pub mod ProblemForm
pub mod Passes
pub mod Marking
pub mod Steps
pub mod Verdicts
pub mod AcceptedLaws
