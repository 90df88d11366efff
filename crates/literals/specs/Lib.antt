pub mod Literals
pub mod Buffer
pub mod Inside
pub mod Held
