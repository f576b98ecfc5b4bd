pub mod Channels
pub mod Rows
pub mod Carried
pub mod Theorems
pub mod Contracts
