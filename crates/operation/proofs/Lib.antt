-- The laws on an operation's steps as the code takes them. `Promises` states what its first step promises, and `Unique`
-- that the contracts leave one answer each; what further steps come to is said by the crate above.
pub mod Outcomes
pub mod Going
pub mod Sound
pub mod Unique
pub mod Begun
pub mod Promises
