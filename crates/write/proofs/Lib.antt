-- Laws on blocks laid one by one into a lent run, on where the writer ends, and on the search over written runs.
-- `Promises` says what the writer promises, and `Unique` that its contract leaves one answer and one content of the
-- run.
pub mod Walks
pub mod Ends
pub mod Searches
pub mod Unique
pub mod Promises
