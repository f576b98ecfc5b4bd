-- What a walk needs of a configuration, what inner functions promise, what `finish` promises, the claims.
pub mod Plan
pub mod Parts
pub mod Promises
pub mod Claims
