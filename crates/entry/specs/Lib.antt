-- The definitions of this crate: what an entry for hosts returns and what it writes.
pub mod Entry
