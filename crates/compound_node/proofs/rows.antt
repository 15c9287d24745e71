-- Lemmas about `src/rows.rt`.
pub mod Clearing
pub mod Closing
pub mod Shifting
pub mod Spreading
