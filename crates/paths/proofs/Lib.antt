pub mod Walk
pub mod Listings
pub mod Breadth
pub mod Ways
pub mod Crossings
pub mod Found
