-- Lemmas about `src/joining.rt`.
pub mod Joining
pub mod Widening
