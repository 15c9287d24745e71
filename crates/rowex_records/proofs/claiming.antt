-- Lemmas about `src/claiming.rt`.
pub mod GivenUp
