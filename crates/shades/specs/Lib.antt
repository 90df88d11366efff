pub mod Inside
pub mod Shades
