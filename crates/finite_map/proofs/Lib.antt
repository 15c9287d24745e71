-- Lemmas on maps, fronts, legal calls, weaves and scans, and worked examples.
mod Common
mod Examples
pub mod Maps
pub mod Fronts
pub mod Calls
pub mod Weaves
pub mod Scans
