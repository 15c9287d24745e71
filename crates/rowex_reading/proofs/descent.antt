-- Lemmas about `src/descent.rt`.
pub mod Descent
