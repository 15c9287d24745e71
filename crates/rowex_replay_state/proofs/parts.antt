-- Lemmas about `src/parts.rt`.
pub mod Grown
pub mod Keys
pub mod Lists
pub mod Outcomes
pub mod Parts
pub mod Steps
