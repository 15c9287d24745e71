-- Lemmas about `src/search.rt`.
pub mod NearHeads
pub mod NearRows
pub mod Search
