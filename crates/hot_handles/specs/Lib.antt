-- The definitions of the crate.
pub mod Owning
pub mod Lending
pub mod LoadLending
pub mod SectionLending
pub mod SectionHandles
