-- Laws on marks and on what reading answers. `Promises` gathers what the functions promise, and `Unique` says that their contracts
-- leave one answer.
pub mod Marking
pub mod Readings
pub mod Promises
pub mod Unique
