pub mod Spans
pub mod Kept
pub mod Rows
pub mod Tally
pub mod Marks
