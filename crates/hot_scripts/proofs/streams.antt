-- Lemmas about `src/streams.rt`.
pub mod Streams
