-- One attempt, from its search to its end.
pub mod Attempts
