-- Lemmas about `src/affected.rt`.
pub mod Affected
