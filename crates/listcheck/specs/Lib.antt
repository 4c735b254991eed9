pub mod FlashList
pub mod Verdict
pub mod Checked
pub mod Told
pub mod Code
