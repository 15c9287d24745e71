-- Lemmas about `src/gathering.rt`.
pub mod Sliding
