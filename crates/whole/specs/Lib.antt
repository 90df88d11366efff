pub mod Whole
pub mod Joined
