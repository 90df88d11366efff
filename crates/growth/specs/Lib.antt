pub mod Growth
pub mod Gap
pub mod Pairs
pub mod Scenes
