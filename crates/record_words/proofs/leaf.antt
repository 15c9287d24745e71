-- Lemmas about `src/leaf.rt`.
pub mod Offsets
