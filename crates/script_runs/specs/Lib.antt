-- The definitions of the crate.
pub mod Answers
pub mod Told
pub mod Progress
pub mod Runs
pub mod Scripts
