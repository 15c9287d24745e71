-- Lemmas about `src/history.rt`.
pub mod Walks
