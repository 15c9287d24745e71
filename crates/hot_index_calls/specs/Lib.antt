-- The definitions of the crate.
pub mod Passes
pub mod Refusals
pub mod Alone
pub mod Answers
pub mod Noting
pub mod Traces
pub mod Many
pub mod Census
pub mod Counts
pub mod Reverse
pub mod Asked
pub mod Calls
pub mod Rooms
pub mod Lacking
