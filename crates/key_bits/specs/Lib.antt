-- The definitions that contracts on keys cite.
pub mod Bits
pub mod Gather
pub mod Key
