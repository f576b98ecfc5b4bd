-- The laws that the proofs of this crate cite, and that each contract allows one result.
pub mod Plans
pub mod Preparing
pub mod Whole
pub mod Contracts
