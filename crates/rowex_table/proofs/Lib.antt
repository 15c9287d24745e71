-- The lemmas of the crate.
mod Common
pub mod Onward
pub mod Committed
pub mod Rule
pub mod Seats
pub mod Rights
pub mod Runs
pub mod Made
