-- What is written of an element, what `write` answers and promises, the claims, and what functions that measure
-- promise.
pub mod Written
pub mod Write
pub mod Promises
pub mod Claims
pub mod Sizes
