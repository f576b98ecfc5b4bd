-- The syntax of AudioSpecificConfig, each production as it is read and as it is written: the configuration; what code
-- tells; the claims.
pub mod Asc
pub mod Answer
pub mod Claims
