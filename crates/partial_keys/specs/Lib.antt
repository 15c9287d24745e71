-- The definitions of the crate.
pub mod Rows
pub mod Columns
pub mod Shown
pub mod Shows
pub mod Leads
pub mod Squeezed
pub mod Spread
pub mod Runs
pub mod Windows
