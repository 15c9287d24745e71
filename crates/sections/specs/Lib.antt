-- The definitions of the crate.
pub mod Runs
pub mod Rule
pub mod Sections
pub mod Statements
