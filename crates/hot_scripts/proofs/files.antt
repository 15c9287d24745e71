-- Lemmas about `src/files.rt`.
pub mod Files
