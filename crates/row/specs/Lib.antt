-- The row of a stream, and what is claimed of it.
pub mod Row
pub mod Claims
