-- The definitions of the crate.
pub mod Packed
pub mod Last
pub mod Parts
pub mod Filled
