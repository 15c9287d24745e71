-- Lemmas about `src/scanning.rt`.
pub mod Parts
