-- The lemmas of the crate.
mod Common
pub mod KeyCounts
pub mod Reading
pub mod Passes
pub mod Stamps
pub mod Handles
pub mod Statements
pub mod Loads
pub mod Unhindered
pub mod Enough
pub mod Committed
