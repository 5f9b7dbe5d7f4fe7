-- The definitions of this crate: what an entry returns and what it writes, and the six operations.
pub mod Entry
pub mod Six
