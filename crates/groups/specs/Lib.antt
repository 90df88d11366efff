pub mod Groups
pub mod Arrows
pub mod Rules
pub mod Arrays
pub mod Table
pub mod Flood
