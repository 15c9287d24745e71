-- The lemmas of the crate.
pub mod Ended
pub mod Taking
