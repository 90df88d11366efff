pub mod Fits
pub mod Shift
pub mod Test
