-- The lemmas of the crate.
mod Common
pub mod Answering
pub mod Scripts
pub mod Progress
