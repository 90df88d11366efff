pub mod Finds
pub mod Answers
pub mod Refusals
pub mod Inputs
pub mod Leaves
