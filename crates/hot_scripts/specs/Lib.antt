-- The definitions of the crate.
pub mod Endings
pub mod Faults
pub mod Files
pub mod Grammar
pub mod InFiles
pub mod Meaning
pub mod Options
pub mod Parses
pub mod Streams
pub mod Words
