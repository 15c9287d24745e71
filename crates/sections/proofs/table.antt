-- Lemmas about `src/table.rt`.
pub mod Entries
pub mod Seats
