-- Lemmas about `src/index.rt`.
pub mod Firsts
pub mod Found
pub mod ManyNoted
pub mod Meets
