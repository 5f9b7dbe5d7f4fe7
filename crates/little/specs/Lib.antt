-- The definitions of this crate: numbers as bytes, and bytes that are zero.
pub mod Bytes
pub mod Zeros
