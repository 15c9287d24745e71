-- What is true of packed pairs.
pub mod Packed
pub mod Last
pub mod Fits
