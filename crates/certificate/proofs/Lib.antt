pub mod Words
pub mod Hints
pub mod Heads
