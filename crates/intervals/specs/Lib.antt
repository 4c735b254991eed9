pub mod Table
pub mod Spans
pub mod Search
pub mod Finished
pub mod Counts
pub mod Reach
pub mod Tops
pub mod Sweep
