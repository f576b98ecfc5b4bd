-- The laws that the proofs of this crate cite, and the theorems.
pub mod Steps
pub mod Turns
pub mod Ending
pub mod Theorems
pub mod Contracts
