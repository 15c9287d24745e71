-- The definitions of the crate.
pub mod Limbo
pub mod Reach
pub mod Rounds
pub mod Runs
pub mod Statements
