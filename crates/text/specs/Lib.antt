pub mod Text
pub mod Decimal
pub mod Told
pub mod Pushed
