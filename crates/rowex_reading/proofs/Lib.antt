-- The lemmas of the crate.
mod Common
pub mod Seen
pub mod Possible
pub mod Touching
pub mod Ways
pub mod Counting
