pub mod Verdicts
pub mod Program
pub mod Determined
