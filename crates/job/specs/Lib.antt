pub mod JobText
pub mod Reading
pub mod Writing
pub mod Reader
