-- Lemmas about `src/build/rising.rt`.
pub mod Rising
pub mod Raising
