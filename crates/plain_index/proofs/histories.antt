-- Lemmas about `src/histories.rt`.
pub mod Histories
