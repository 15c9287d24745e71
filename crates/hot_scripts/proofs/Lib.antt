-- The lemmas of the crate.
mod Common
pub mod Grammar
