-- The definitions of the crate.
pub mod Writer
pub mod Spots
pub mod Rise
pub mod Scan
pub mod Directions
pub mod Statements
pub mod Ways
