-- Lemmas about `specs/Possible`.
pub mod Placing
pub mod Rooting
pub mod Shapes
