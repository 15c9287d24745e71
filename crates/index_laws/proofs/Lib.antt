-- The lemmas of the crate.
mod Common
pub mod Executions
pub mod Steps
pub mod Traced
pub mod Joined
pub mod Finding
pub mod Lives
pub mod Headline
pub mod Standing
pub mod Rounding
pub mod Losing
pub mod Counting
pub mod LeftOut
pub mod Resting
pub mod Alone
