-- The lemmas of the crate.
mod Common
pub mod Values
pub mod Store
pub mod Risen
pub mod Heights
pub mod Cases
