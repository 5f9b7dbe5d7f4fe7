-- The definitions of this crate: the block that has a number and values, the run of a field's blocks, what a run's
-- blocks hold and which runs are filled and numbered as written ones are, and what writing a field answers.
pub mod Block
pub mod Run
pub mod Writing
