-- What a call is to do, from the way of its search.
pub mod Asking
pub mod Plans
pub mod Counts
pub mod Planned
