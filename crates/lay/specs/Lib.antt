-- The definitions of this crate: how a block ends.
pub mod Ending
