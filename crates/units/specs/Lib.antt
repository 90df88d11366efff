pub mod Units
pub mod Chosen
pub mod Arrays
pub mod Lent
pub mod Inside
