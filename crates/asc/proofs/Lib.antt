-- The laws that the proofs of this crate cite, and the theorems.
pub mod TripAsc
pub mod Given
pub mod ShortestAsc
pub mod Theorems
pub mod Contracts
