-- The store that is the change, and the end after it.
pub mod Retiring
pub mod Values
pub mod Stores
pub mod Held
