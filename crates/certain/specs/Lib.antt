pub mod Tree
pub mod Facts
pub mod Meaning
pub mod Inside
pub mod Told
