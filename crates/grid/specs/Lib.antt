pub mod Limits
pub mod Squares
pub mod Answers
pub mod Lines
pub mod Raster
pub mod Rooms
pub mod Code
