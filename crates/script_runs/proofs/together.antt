-- Lemmas about `src/together.rt`.
pub mod Numbered
