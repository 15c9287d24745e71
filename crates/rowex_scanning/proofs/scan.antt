-- Lemmas about `src/scan.rt`.
pub mod Ordering
