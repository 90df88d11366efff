pub mod Passed
pub mod Shifts
pub mod ShiftChains
