-- Lemmas about `src/laws.rt`.
pub mod Longs
pub mod Spared
