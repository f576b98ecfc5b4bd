-- The summary, what its functions promise on the way, and what is claimed of it.
pub mod Summary
pub mod Laid
pub mod Claims
