-- The lemmas of the crate.
mod Common
pub mod Tables
pub mod States
pub mod Sound
pub mod RecordSteps
pub mod LoadSteps
pub mod LockSteps
pub mod EpochSteps
pub mod Publishing
mod Versions
mod Changed
