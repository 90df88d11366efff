pub mod Kept
pub mod Form
pub mod Bytes
pub mod Inside
pub mod Edition
pub mod Lent
pub mod LeafOf
