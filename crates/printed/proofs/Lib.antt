pub mod Forms
pub mod Longest
mod Begun
pub mod Ruled
pub mod Example
pub mod Determined
