-- Lemmas about `src/in_files.rt`.
pub mod InFiles
