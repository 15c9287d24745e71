-- The definitions of the crate.
pub mod Traces
pub mod Committed
pub mod Rule
pub mod Rights
pub mod Runs
pub mod Seats
pub mod Statements
pub mod Made
pub mod Publishes
pub mod Stays
