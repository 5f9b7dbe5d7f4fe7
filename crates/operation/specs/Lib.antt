-- The definitions of this crate: how far an allowance brings an operation.
pub mod Work
