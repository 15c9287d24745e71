-- Lemmas about `src/direction.rt`.
pub mod Directed
