-- Lemmas about `src/build/remaking.rt`.
pub mod Remaking
