-- Lemmas about `src/plain.rt`.
pub mod Backwards
pub mod Giving
pub mod Made
