pub mod Paths
pub mod BreadthFirst
pub mod Chosen
pub mod Search
pub mod Ends
pub mod Lists
pub mod Lent
