-- The lemmas, lowest first.
mod Common
pub mod Editing
pub mod Ladders
pub mod Heights
pub mod Lawful
pub mod Forking
pub mod Removal
pub mod Roots
pub mod Lowering
pub mod Beside
