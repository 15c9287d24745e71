-- Lemmas about `src/fixed.rt`.
pub mod Fixing
pub mod Highs
