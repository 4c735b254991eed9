pub mod Intervals
pub mod Dependent
pub mod Reduce
pub mod Final
pub mod Runs
pub mod Strike
pub mod ByCounts
