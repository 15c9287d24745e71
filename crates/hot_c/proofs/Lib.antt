-- The lemmas of the crate.
mod Common
pub mod Orders
pub mod Statuses
pub mod Loads
pub mod Histories
