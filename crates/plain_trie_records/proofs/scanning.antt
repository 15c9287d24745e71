-- Lemmas about `src/scanning.rt`.
pub mod Parts
pub mod Scanning
pub mod Standing
