-- The definitions of the crate.
pub mod Ranges
pub mod Statements
