pub mod Few
pub mod Program
pub mod Determined
pub mod Plus
pub mod MainTheorem
