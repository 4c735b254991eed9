-- What the verdicts say of squares, and that nothing is left open.
pub mod Sound
pub mod Told
pub mod OurLists
pub mod Few
pub mod Tried
pub mod Determined
-- What the code's loops and branches rest on.
pub mod Onward
pub mod Turns
pub mod Good
pub mod Weighed
pub mod Judged
pub mod Refusals
