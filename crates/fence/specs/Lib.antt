pub mod Inside
pub mod Part
pub mod Board
