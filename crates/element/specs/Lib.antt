-- The element: what is held, its tree, map and reply of a reading, what is left behind, what readers promise, claims, demands.
pub mod Held
pub mod Mux
pub mod Reply
pub mod Left
pub mod Promises
pub mod Claims
pub mod Demands
