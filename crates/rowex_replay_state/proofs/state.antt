-- Lemmas about `src/state.rt`.
pub mod Opening
pub mod Retiring
