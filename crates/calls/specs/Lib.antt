pub mod Call
pub mod Found
pub mod Judged
pub mod Shaded
pub mod Told
pub mod Inside
