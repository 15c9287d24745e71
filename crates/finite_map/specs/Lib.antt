-- A finite map, histories of it, and scans.
pub mod Maps
pub mod Fronts
pub mod Calls
pub mod Weaves
pub mod Scans
pub mod Reverse
