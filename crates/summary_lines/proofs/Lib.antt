-- Laws that the proofs of several functions share, and the theorems.
pub mod Laid
pub mod Turns
pub mod Contracts
pub mod Streams
pub mod Columns
pub mod Theorems
