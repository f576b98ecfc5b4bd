-- The frames of a capture, the text of them in blocks, what code promises, and what is claimed.
pub mod Frames
pub mod Blocks
pub mod Promises
pub mod Claims
pub mod Worked
