-- Lemmas about `specs/Statements`.
pub mod Alone
pub mod Held
pub mod Removed
