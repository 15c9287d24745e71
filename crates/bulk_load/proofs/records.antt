-- Lemmas about `src/records.rt`.
pub mod Fields
