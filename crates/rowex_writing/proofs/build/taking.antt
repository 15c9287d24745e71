-- Lemmas about `src/build/taking.rt`.
pub mod Taking
