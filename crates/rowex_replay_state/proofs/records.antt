-- Lemmas about `src/records.rt`.
pub mod Linking
pub mod Packing
pub mod Searches
