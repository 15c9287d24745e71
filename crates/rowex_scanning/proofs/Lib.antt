-- The lemmas of the crate.
mod Common
pub mod Walking
pub mod Starts
pub mod Scanned
