-- Lemmas about `src/rising.rt`.
pub mod Rising
pub mod Lifting
pub mod Replacing
pub mod Steady
