-- The order of the calls in a history, also in time, and the laws of histories.
pub mod Orders
pub mod Times
pub mod Statements
