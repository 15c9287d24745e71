-- Lemmas about `src/merging/widening.rt`.
pub mod Widening
