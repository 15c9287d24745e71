-- The definitions of the crate, in the order in which to read them.
-- First what there is: what words say, the core, and the words that show a core.
pub mod Reading
pub mod Cores
pub mod Words
-- Then what happens: the core of a new table, when a step is legal and what it makes, what each pass has, what a pass knows and learns, and
-- lists of steps.
pub mod Opening
pub mod Events
pub mod Sharing
pub mod Knowing
pub mod Runs
-- Then what a pass may count on: what others' steps leave to it, and what it has, by lists.
pub mod Frames
pub mod Having
-- At last the laws.
pub mod Statements
pub mod Writers
