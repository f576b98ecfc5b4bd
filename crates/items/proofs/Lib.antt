-- Laws of items and their bits, and the theorems.
pub mod Shifts
pub mod Copies
pub mod Theorems
pub mod Contracts
