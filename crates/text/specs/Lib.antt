pub mod Words
pub mod Decimal
pub mod Line
pub mod Steps
pub mod Signed
