-- The definitions of the crate.
pub mod Runs
pub mod Replays
