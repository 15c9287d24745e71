-- Lemmas about `src/pairs.rt`.
pub mod Pairs
