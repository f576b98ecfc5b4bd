-- What is claimed of the promise of a layer's reader.
pub mod Claims
