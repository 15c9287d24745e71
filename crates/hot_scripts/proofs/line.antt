-- Lemmas about `src/line.rt`.
pub mod Cuts
