-- The laws that the proofs of this crate cite, and the theorems.
pub mod Numbers
pub mod Order
pub mod Contents
pub mod Alignment
pub mod Unbounded
pub mod Few
pub mod Streams
pub mod Productions
pub mod Theorems
pub mod Demands
