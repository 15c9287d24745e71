-- Lemmas about `src/store/publishing.rt`.
pub mod Publishing
