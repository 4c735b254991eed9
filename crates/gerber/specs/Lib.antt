pub mod File
pub mod Writing
pub mod Code
pub mod Reading
pub mod Parts
pub mod Format
pub mod SameFlashes
