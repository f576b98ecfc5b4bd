-- What a script holds.
pub mod Lent
