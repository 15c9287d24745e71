-- Lemmas about `src/arguments.rt`.
pub mod Arguments
pub mod Ranges
