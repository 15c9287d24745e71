-- The definitions of the crate.
pub mod Configurations
pub mod Histories
pub mod Effects
pub mod Scanning
pub mod Statements
