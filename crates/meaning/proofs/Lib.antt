-- The laws of this crate, each file standing on those above it. `Promises` states what the crate promises.
pub mod Refusals
pub mod Single
pub mod SameAsChecked
pub mod Digits
pub mod Operations
pub mod Bound
pub mod Reaching
pub mod Hands
pub mod Failing
pub mod Examples
pub mod Promises
