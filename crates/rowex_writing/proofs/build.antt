-- Records made for what takes the place of a span.
pub mod Staging
pub mod Building
pub mod Above
pub mod Classes
pub mod Spared
pub mod Changes
pub mod Putting
pub mod Growths
pub mod Counts
pub mod Walks
pub mod Spare
pub mod Passing
