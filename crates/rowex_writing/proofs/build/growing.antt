-- Lemmas about `src/build/growing.rt`.
pub mod Growing
