-- Laws on a block at which the search ends and on the search's stages. `Promises` states what the search promises,
-- and `Unique` that its contract leaves one answer.
pub mod Ends
pub mod Stages
pub mod Walks
pub mod Promises
pub mod Unique
