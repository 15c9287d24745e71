-- Lemmas about `src/build/deeds.rt`.
pub mod Deeds
