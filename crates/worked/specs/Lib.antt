-- The worked cases: those that document 01 marks P, what is read up to each edge, and what is written.
pub mod Worked
pub mod Edges
pub mod Writing
