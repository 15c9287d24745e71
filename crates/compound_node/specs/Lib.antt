-- What contracts cite.
pub mod Ladders
pub mod Removal
pub mod Lowering
pub mod Nodes
pub mod Forking
pub mod Halves
pub mod Joining
pub mod Beside
