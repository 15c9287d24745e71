-- The definitions of the crate.
pub mod Grown
pub mod Ways
pub mod Levels
pub mod Risen
