-- The record's definitions, in reading order.
pub mod Blank
pub mod Same
pub mod Table
pub mod Valid
pub mod Claims
