pub mod Lists
pub mod Count
pub mod Link
pub mod Grid
pub mod Side
pub mod Cells
pub mod Marks
