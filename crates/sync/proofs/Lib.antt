-- Laws that the proofs of several functions share.
pub mod Places
pub mod First
pub mod Frames
pub mod Written
pub mod Theorems
pub mod Worked
pub mod Contracts
