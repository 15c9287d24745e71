-- The definitions of the crate.
pub mod Tallies
pub mod Scanning
pub mod Ahead
pub mod Starts
pub mod Counts
