-- Lemmas about `src/plain.rt`.
pub mod Inserting
