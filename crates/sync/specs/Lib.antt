-- The sync layer, what code promises, what is claimed, and hunts worked out by hand.
pub mod Sync
pub mod Promises
pub mod Claims
pub mod Worked
