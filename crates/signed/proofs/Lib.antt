-- Signed division, once for every width. `Promises` states what the functions promise beside their definitions, and
-- `Unique` that their contracts leave one answer.
pub mod Division
pub mod WholeParts
pub mod Answers
pub mod Narrowed
pub mod Promises
pub mod Unique
pub mod Examples
