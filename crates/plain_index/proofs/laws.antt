-- Lemmas about `src/laws.rt`.
pub mod AtOnce
pub mod Gets
