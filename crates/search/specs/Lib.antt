-- The definitions of this crate: what a search over a run of blocks finds, and what it answers in numbers.
pub mod Search
pub mod Answers
