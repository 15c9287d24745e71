-- Lemmas about `src/section/calls.rt`.
pub mod Kept
