-- The lemmas of the crate.
mod Common
pub mod Tree
pub mod Content
pub mod Counts
pub mod Keys
pub mod Place
pub mod Changes
pub mod Affected
pub mod Read
