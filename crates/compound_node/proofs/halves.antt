-- Lemmas about `src/halves.rt`.
pub mod Halves
