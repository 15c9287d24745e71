-- Lemmas about `src/counting.rt`.
pub mod Counting
