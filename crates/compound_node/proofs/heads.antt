-- Lemmas about `src/heads.rt`.
pub mod Ranges
