-- The laws that the proofs of this crate cite, and the theorems.
pub mod Turns
pub mod Trip
pub mod Shortest
pub mod Groups
pub mod Given
pub mod Theorems
pub mod Contracts
