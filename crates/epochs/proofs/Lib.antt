-- The lemmas of the crate.
mod Common
pub mod Runs
pub mod Reach
pub mod Rounds
