-- The words that callers lend, what is promised of them, what is claimed, the demands, and words worked out by hand.
pub mod Lent
pub mod Promises
pub mod Claims
pub mod Demands
pub mod Worked
