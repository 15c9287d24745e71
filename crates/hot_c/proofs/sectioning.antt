-- Lemmas about `src/sectioning.rt`.
pub mod Sectioning
