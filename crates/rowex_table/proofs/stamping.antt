-- Lemmas about `src/stamping.rt`.
pub mod Stamps
