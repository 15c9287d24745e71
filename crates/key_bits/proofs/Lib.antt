-- Lemmas on keys and their bits. The crates above use those of Difference, Order and Gathering.
pub mod Bits
pub mod Gather
pub mod Holding
