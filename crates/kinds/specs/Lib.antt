pub mod Kinds
pub mod Meaning
pub mod Arrays
pub mod Inside
pub mod Board
