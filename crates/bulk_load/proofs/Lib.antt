-- Lemmas of the crate.
mod Common
mod Stacks
mod Views
mod Tables
mod Loading
mod Finished
