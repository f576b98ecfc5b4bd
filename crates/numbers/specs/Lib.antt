-- Numbers of several bytes, as they are read and as they are written, and what is claimed of them.
pub mod Values
pub mod Claims
