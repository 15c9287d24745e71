-- The lemmas of the crate.
mod Common
mod Examples
pub mod Configurations
pub mod Effects
pub mod Histories
pub mod Scanning
pub mod Statements
