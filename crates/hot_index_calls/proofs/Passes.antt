-- Lemmas about `specs/Passes`.
pub mod Collected
pub mod Settled
