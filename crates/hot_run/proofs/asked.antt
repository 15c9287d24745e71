-- Lemmas about `src/asked.rt`.
pub mod Asked
