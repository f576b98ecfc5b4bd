-- Laws of words, and the theorems.
pub mod Words
pub mod Theorems
pub mod Contracts
