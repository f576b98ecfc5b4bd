-- The listing, what its functions promise on the way, and what is claimed of it.
pub mod Listing
pub mod Laid
pub mod Claims
