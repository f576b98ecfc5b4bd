-- What inner functions promise, what readings need of what is held, and the promises over that.
pub mod Parts
pub mod Prepared
pub mod Promises
