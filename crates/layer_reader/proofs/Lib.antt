-- The theorems.
pub mod Theorems
pub mod Contracts
