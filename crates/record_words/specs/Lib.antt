-- The definitions of the crate.
pub mod Decoding
pub mod Dropping
pub mod Entry
pub mod HeadParts
pub mod Kinds
pub mod Layout
pub mod Leaf
pub mod Limits
pub mod Node
pub mod Packed
pub mod Reading
pub mod State
