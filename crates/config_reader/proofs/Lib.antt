-- The laws that the proofs of this crate cite, and the theorems.
pub mod Turns
pub mod Theorems
pub mod Contracts
