pub mod Turn
pub mod Inside
