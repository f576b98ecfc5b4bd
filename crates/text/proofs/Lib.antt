-- Laws that the proofs of several functions share, and the theorems.
pub mod Figures
pub mod Words
pub mod Theorems
pub mod Contracts
