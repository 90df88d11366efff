pub mod Counting
pub mod Reaches
pub mod ChainLaws
pub mod ChainWalks
pub mod NearLaws
pub mod NearReach
pub mod BlockSize
