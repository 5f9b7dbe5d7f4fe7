-- Laws on the entries for levels. `Promises` states what the entries promise, and `Unique` that their contracts leave
-- one answer and one content of each lent list.
pub mod Entries
pub mod Unique
pub mod Promises
