-- A removal after which two nodes are one.
pub mod Merging
