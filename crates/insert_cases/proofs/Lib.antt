-- The lemmas of the crate.
mod Common
pub mod NodeFacts
pub mod Ways
pub mod Pairs
