-- Lemmas about `src/key_counts.rt`.
pub mod KeyCounts
pub mod Nets
