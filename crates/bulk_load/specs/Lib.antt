-- The definitions of the crate.
pub mod Views
pub mod Tips
pub mod Tables
pub mod Stacks
pub mod Loading
pub mod Finished
