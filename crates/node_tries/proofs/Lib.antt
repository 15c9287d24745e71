-- The lemmas of the crate.
pub mod Highest
pub mod Positions
pub mod Piece
pub mod Edits
pub mod Growth
pub mod Affected
pub mod Changes
pub mod Grafts
pub mod Worked
