pub mod Fields
pub mod Inside
