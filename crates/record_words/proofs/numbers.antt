-- Lemmas about `src/numbers.rt`.
pub mod NearPositions
