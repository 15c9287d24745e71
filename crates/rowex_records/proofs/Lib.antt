-- The lemmas of the crate.
mod Common
pub mod Claims
pub mod Records
