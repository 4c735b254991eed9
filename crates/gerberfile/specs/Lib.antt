pub mod Words
pub mod Program
