-- A removal after which two nodes are one.
pub mod Beside
pub mod Merging
pub mod Leaving
