-- Laws on levels: what is kept of readings one after the other, what is known of a reading and of a place's fault, the
-- ranks of a part, what a part settles on, the stages of the scan, and its loop over parts.
pub mod Kept
pub mod Turns
pub mod Parts
pub mod Stages
pub mod Passing
pub mod Promises
pub mod Unique
pub mod Examples
