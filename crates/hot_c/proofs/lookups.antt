-- Lemmas about `src/lookups.rt`.
pub mod Lookups
