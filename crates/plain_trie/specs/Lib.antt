-- The definitions of the crate.
pub mod Views
pub mod Room
pub mod Cases
