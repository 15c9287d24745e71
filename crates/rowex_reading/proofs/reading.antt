-- Lemmas about `src/reading.rt`.
pub mod Comparing
pub mod Fronting
pub mod Heading
pub mod Leafing
pub mod Stepping
pub mod Whole
pub mod Wording
