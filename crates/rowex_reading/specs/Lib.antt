-- The definitions of the crate.
pub mod Seen
pub mod Possible
pub mod Reads
pub mod Lookups
pub mod Ways
pub mod Together
