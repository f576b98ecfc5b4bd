-- The syntax of StreamMuxConfig, each production as it is read and as it is written; the claims.
pub mod Mux
pub mod Claims
