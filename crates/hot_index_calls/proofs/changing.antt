-- Lemmas about `src/changing.rt`.
pub mod Conflicts
pub mod Resting
