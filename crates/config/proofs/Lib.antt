-- The laws that the proofs of this crate cite, and the theorems.
pub mod Begun
pub mod TripMux
pub mod Given
pub mod Shortest
pub mod Said
pub mod Theorems
