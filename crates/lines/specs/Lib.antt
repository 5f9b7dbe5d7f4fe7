-- The definitions of this crate: what is put into a line.
pub mod Line
