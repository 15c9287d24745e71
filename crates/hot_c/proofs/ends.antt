-- Lemmas about `src/ends.rt`.
pub mod Ends
