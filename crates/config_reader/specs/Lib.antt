-- What the readers of StreamMuxConfig leave of a table lent to them, and what is claimed of their promises.
pub mod Answer
pub mod Claims
