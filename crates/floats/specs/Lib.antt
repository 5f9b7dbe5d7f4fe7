-- The definitions of this crate: the answers on levels as the entries give them.
pub mod Levels
