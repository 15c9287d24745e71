-- The definitions of the crate.
pub mod KeyCounts
pub mod Passes
pub mod Ranges
pub mod Cursors
pub mod Stamps
pub mod Handles
pub mod Kept
pub mod Committing
pub mod Loads
pub mod Statements
pub mod Alone
