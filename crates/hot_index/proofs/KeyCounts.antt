-- Lemmas about `specs/KeyCounts`.
pub mod Counted
