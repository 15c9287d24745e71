-- Lemmas about `src/node.rt`.
pub mod Closed
pub mod DroppedRows
pub mod Forking
pub mod HeadPut
pub mod SameColumns
