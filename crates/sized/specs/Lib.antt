pub mod Sized
pub mod Inside
pub mod Ranges
