-- The lemmas of the crate.
mod Common
pub mod Lists
pub mod Words
pub mod Reading
pub mod Sharing
pub mod Frames
pub mod Knowing
pub mod Cores
pub mod Events
pub mod Statements
pub mod Runs
pub mod Writers
pub mod Having
pub mod Opening
