pub mod Inside
pub mod Chains
pub mod Near
pub mod Board
