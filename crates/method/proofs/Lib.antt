-- The theory over a test on two lines: counts in boxes, the staircase, STAR and what follows from it.
pub mod Sets
pub mod Sums
pub mod Boxes
pub mod Staircase
pub mod Star
pub mod Size
pub mod Generate
pub mod NoNew
pub mod Disturb
pub mod Commute
-- Listed sets, and the bridge from the rules as written to the theory.
pub mod Lines
pub mod Listed
pub mod Minimal
pub mod Counts
pub mod Dependence
pub mod Jumps
pub mod Outermost
pub mod RuleFour
pub mod Facts
pub mod InOrder
-- Runs, the final set, and the marks' rule.
pub mod Search
pub mod AnyOrder
pub mod Final
pub mod Trace
pub mod Bags
pub mod Once
pub mod StrikeColumn
pub mod Marks
pub mod ByCounts
pub mod OnePass
-- Worked examples.
pub mod Examples
