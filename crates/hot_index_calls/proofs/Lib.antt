-- The lemmas of the crate.
mod Common
pub mod Traces
pub mod Noting
pub mod Passes
pub mod Counted
pub mod Hindered
pub mod Removing
pub mod Counts
pub mod Refusing
pub mod Rooms
pub mod Used
pub mod Lacked
