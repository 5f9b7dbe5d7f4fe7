-- Laws on what an entry returns and writes. `Promises` states what the entries promise, and `Unique` that their
-- contracts leave one answer and one content of each lent list.
pub mod Entries
pub mod Signed
pub mod Runs
pub mod Exactly
pub mod Promises
pub mod Unique
pub mod Examples
