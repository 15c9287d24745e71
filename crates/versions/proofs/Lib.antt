-- The lemmas of the crate.
mod Common
pub mod Heap
pub mod State
pub mod Core
pub mod Told
pub mod Read
pub mod Steps
pub mod Trades
pub mod Counts
pub mod Loads
