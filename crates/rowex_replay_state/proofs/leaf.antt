-- Lemmas about `src/leaf.rt`.
pub mod LeafBytes
pub mod Readings
