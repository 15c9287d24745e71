-- Lemmas about `src/collection.rt`.
pub mod Advancing
pub mod Visiting
