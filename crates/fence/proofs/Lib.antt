pub mod Insertion
pub mod Ordering
pub mod Fences
pub mod FenceList
