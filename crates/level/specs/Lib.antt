-- The definitions of this crate: a level's least and greatest reading, and what the scan answers in numbers; `Ranks`
-- is for the scan's helpers.
pub mod Extent
pub mod Scan
pub mod Answers
pub mod Ranks
