-- Lemmas about `src/node.rt`.
pub mod Entries
pub mod Heads
pub mod Nodes
pub mod Small
