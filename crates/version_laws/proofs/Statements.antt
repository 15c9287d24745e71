-- Lemmas about `specs/Statements`.
pub mod Leaves
pub mod Search
pub mod Upwards
