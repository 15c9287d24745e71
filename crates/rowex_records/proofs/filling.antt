-- Lemmas about `src/filling.rt`.
pub mod Named
pub mod SetAll
