pub mod Join
pub mod Inside
