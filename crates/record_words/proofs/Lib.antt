-- The lemmas of the crate.
mod Common
pub mod Bytes
pub mod Dropping
pub mod Entries
pub mod Growing
pub mod Heads
pub mod Lanes
pub mod Lawful
pub mod Leaves
pub mod Locations
pub mod Nodes
pub mod OfKinds
pub mod Packed
pub mod Runs
pub mod Reading
pub mod Spellings
pub mod HeadParts
pub mod Unused
pub mod UpToKey
mod Worked
pub mod Written
