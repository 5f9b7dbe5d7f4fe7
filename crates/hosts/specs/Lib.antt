-- The definitions of this crate: what an entry returns and what it writes, and each answer's numbers.
pub mod Entry
pub mod Answers
