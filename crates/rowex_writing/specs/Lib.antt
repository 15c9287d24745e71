-- The definitions of the crate.
pub mod plan
pub mod locks
pub mod build
pub mod store
pub mod merging
pub mod attempts
