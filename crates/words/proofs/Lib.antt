pub mod Digits
pub mod Words
pub mod Operations
pub mod Found
pub mod Determined
