-- The items of a map, their bits, and what is claimed of them.
pub mod Items
pub mod Copied
pub mod Claims
