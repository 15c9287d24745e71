-- The definitions of the crate.
pub mod Keys
pub mod Tree
pub mod Search
pub mod Place
pub mod Content
pub mod Counts
pub mod Changes
pub mod Affected
pub mod Read
pub mod Statements
