pub mod File
pub mod Answers
pub mod Inside
pub mod Call
