-- The definitions of the crate.
pub mod Faults
pub mod Fates
pub mod Records
pub mod Links
pub mod Passes
pub mod States
pub mod Publishing
pub mod Versions
pub mod Parts
pub mod Changed
pub mod Statements
