-- The lemmas of the crate.
mod Common
pub mod Stages
pub mod Spots
pub mod Sure
pub mod Rises
pub mod Insertions
pub mod Cases
pub mod Acts
pub mod Loops
pub mod Ending
pub mod Lone
