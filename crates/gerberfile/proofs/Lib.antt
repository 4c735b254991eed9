pub mod Few
pub mod Texts
pub mod Back
pub mod Program
pub mod Determined
pub mod Numbers
