-- Laws of the words lent, and the theorems.
pub mod Signed
pub mod Words
pub mod Numbers
pub mod Rows
pub mod Trip
pub mod Theorems
pub mod Demands
pub mod Worked
pub mod Contracts
