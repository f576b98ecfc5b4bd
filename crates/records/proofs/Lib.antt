pub mod Places
pub mod Derived
pub mod Equal
pub mod Tables
pub mod Apart
pub mod Theorems
pub mod Contracts
