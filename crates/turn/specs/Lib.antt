-- The definitions of this crate: which floats are whole numbers that a field takes, and what turning a level into a
-- field answers and leaves.
pub mod Wholes
pub mod Turning
pub mod Answers
