pub mod Counting
pub mod Finished
pub mod Verdicts
pub mod Lent
