-- The definitions of this crate: what each operation of a row comes to, and what a row answers and leaves.
pub mod Rows
pub mod Answers
pub mod Turns
