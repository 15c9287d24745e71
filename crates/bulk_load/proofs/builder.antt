-- Lemmas about `src/builder.rt`.
pub mod Opening
pub mod Pushing
