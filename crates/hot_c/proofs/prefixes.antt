-- Lemmas about `src/prefixes.rt`.
pub mod Prefixes
