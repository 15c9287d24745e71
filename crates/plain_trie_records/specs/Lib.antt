-- The definitions of the crate.
pub mod Store
pub mod Heights
pub mod Risen
pub mod Rising
pub mod Cases
