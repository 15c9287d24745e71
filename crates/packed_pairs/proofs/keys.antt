-- Lemmas about `src/keys.rt`.
pub mod Copying
