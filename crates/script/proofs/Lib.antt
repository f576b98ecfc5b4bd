-- Laws that the proofs of several functions share.
pub mod Taken
pub mod Contracts
