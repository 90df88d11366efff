pub mod Form
pub mod Inside
