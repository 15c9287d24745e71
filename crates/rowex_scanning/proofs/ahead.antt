-- Lemmas about `src/ahead.rt`.
pub mod Begins
