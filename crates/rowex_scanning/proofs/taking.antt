-- Lemmas about `src/taking.rt`.
pub mod Passing
pub mod Runs
