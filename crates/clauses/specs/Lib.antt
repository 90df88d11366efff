pub mod Clauses
pub mod Inside
