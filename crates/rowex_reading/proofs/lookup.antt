-- Lemmas about `src/lookup.rt`.
pub mod Lookup
