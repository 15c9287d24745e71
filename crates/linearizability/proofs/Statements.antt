-- Lemmas about `specs/Statements`.
pub mod Replies
