-- Laws that the proofs of several functions share, and the theorem.
pub mod Texts
pub mod Blocks
pub mod Theorems
pub mod Contracts
