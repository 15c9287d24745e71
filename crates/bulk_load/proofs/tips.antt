-- Lemmas about `src/tips.rt`.
pub mod Tips
pub mod Rows
