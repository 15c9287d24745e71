-- What a call is to do, from the way of its search.
pub mod Plans
pub mod Planned
