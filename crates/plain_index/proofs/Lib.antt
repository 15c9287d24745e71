-- Lemmas on the map for one thread, on fronts decided change by change, on the order of woven calls, and on scans.
mod Common
pub mod Orders
pub mod Times
