pub mod Combs
pub mod Passes
