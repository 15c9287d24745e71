-- The lemmas of the crate.
mod Common
pub mod Putting
pub mod Taking
pub mod Rows
pub mod Keeping
pub mod Leads
pub mod Spread
pub mod Shown
pub mod Shows
pub mod Affected
pub mod Squeezed
pub mod Worked
pub mod Windows
pub mod Reaching
