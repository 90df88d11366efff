pub mod Board
pub mod Answers
pub mod Kept
pub mod Form
pub mod Decide
pub mod Hints
pub mod Calls
pub mod Inside
