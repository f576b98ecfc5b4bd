-- The words of a record, what code promises, and what is claimed.
pub mod Words
pub mod Promises
pub mod Claims
