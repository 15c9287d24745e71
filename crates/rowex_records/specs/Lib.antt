-- The definitions of the crate.
pub mod Claims
pub mod Records
pub mod Starts
