pub mod Names
pub mod Boundary
pub mod Checks
pub mod Sides
