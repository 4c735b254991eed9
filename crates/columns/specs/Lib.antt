pub mod Columns
pub mod Code
