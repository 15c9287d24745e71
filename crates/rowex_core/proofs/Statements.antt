-- Lemmas about `specs/Statements`.
pub mod Promises
