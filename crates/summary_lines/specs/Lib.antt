-- The lines of the summary, and what is claimed of them.
pub mod Lines
pub mod Claims
