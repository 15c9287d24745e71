-- Lemmas about `src/store/ending.rt`.
pub mod Ending
