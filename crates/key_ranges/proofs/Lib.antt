-- Lemmas on the order of keys.
pub mod Ranges
