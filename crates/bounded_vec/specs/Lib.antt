-- The definitions of the crate.
pub mod Bounded
