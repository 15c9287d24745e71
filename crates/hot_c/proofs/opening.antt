-- Lemmas about `src/opening.rt`.
pub mod Keepers
pub mod Places
pub mod Shares
