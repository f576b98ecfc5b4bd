-- Laws of frames and blocks, and the theorems.
pub mod Frames
pub mod Steps
pub mod Blocks
pub mod Theorems
pub mod Contracts
