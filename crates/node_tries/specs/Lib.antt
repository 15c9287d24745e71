-- The definitions of the crate.
pub mod Kept
pub mod Positions
pub mod Highest
pub mod Piece
pub mod Growth
pub mod Changes
pub mod Grafts
