-- The locks of a span, what is loaded under them, and the check.
pub mod Going
pub mod Loads
pub mod Runs
pub mod Locks
pub mod Others
pub mod Spans
pub mod Tried
pub mod Shapes
pub mod Ways
pub mod Onward
pub mod Checks
