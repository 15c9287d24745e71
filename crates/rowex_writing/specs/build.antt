-- Records made for what takes the place of a span.
pub mod Remaking
pub mod Classes
pub mod Building
pub mod Changes
pub mod Deeds
pub mod Taking
pub mod Putting
pub mod Growths
pub mod Walks
pub mod Spare
