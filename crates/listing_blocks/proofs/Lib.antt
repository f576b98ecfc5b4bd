-- Laws that the proofs of several functions share, and the theorems.
pub mod Lines
pub mod Digits
pub mod Blocks
pub mod Theorems
pub mod Contracts
