-- Lemmas about `src/held.rt`.
pub mod Boxes
pub mod Content
pub mod Steps
pub mod Words
