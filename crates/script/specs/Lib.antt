-- What is set before a call, and what is taken from a reader.
pub mod Sevens
pub mod Taken
