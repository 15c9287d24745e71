-- The lemmas of the crate.
mod Common
pub mod Now
pub mod Replaced
pub mod Paths
pub mod Standing
pub mod Writer
pub mod Trading
pub mod Differing
pub mod Spots
pub mod Rise
pub mod Statements
pub mod Beside
pub mod Scan
pub mod Directions
pub mod Ways
