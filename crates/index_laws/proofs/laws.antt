-- Lemmas about `src/laws.rt`.
pub mod Shown
