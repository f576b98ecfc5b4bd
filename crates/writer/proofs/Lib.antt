-- The laws that the proofs of this crate cite, and the theorems.
pub mod Pieces
pub mod TripElement
pub mod Contents
pub mod Lengths
pub mod Whole
pub mod Rows
pub mod Subframes
pub mod Element
pub mod Parts
pub mod Answers
pub mod Exact
pub mod Back
pub mod Said
pub mod Theorems
pub mod Contracts
