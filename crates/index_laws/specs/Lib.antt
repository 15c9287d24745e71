-- The definitions of the crate.
pub mod Executions
pub mod Steps
pub mod Traced
pub mod Statements
pub mod Lives
pub mod Joined
pub mod Rest
pub mod Alone
pub mod Headline
