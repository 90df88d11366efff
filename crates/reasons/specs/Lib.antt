pub mod Inconsistency
pub mod Lent
pub mod Reasons
pub mod Find
pub mod Demand3
