-- Lemmas about `src/one.rt`.
pub mod Alone
