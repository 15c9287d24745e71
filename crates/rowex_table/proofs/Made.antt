-- Lemmas about `specs/Made`.
pub mod ActsAfter
pub mod ActsBefore
pub mod ActsLeave
