-- The locks of a span, what is loaded under them, and the check.
pub mod Going
pub mod Loads
pub mod Locks
pub mod Others
pub mod Checks
pub mod Jobs
