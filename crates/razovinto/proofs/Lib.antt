-- Laws on what an entry returns and writes, and on the six operations. `Promises` states what the entries promise, and
-- `Unique` that the contract leaves one answer and one content of the slice.
pub mod Slices
pub mod Written
pub mod Operations
pub mod Promises
pub mod Unique
pub mod Examples
