-- The definitions of the crate.
pub mod Heap
pub mod State
pub mod Core
pub mod Frames
pub mod Told
pub mod Steps
pub mod Loads
pub mod Read
pub mod Trades
pub mod Counts
pub mod Statements
