pub mod Comparisons
pub mod Lists
pub mod Printed
pub mod Tallies
