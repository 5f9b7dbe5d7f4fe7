-- Laws on what an entry for hosts returns and writes. `Promises` states what every such entry promises.
pub mod Entries
pub mod Exactly
pub mod Promises
