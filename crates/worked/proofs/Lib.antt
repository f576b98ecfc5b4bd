-- The theorems.
pub mod Worked
pub mod Edges
pub mod Writing
