-- Lemmas about `src/near.rt`.
pub mod Digits
pub mod LaneWords
pub mod NearDense
pub mod NearKinds
pub mod NearLanes
pub mod NearSpelling
