-- Text in bytes, the refusals in words, and what is claimed of numbers.
pub mod Text
pub mod Words
pub mod Claims
