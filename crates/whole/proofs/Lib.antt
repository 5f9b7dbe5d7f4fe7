-- The laws of this crate, each file standing on those above it. `Closed` states what upstream left open.
pub mod Difference
pub mod Order
pub mod Mul
pub mod Euclid
pub mod DivMod
pub mod Power
pub mod Logarithm
pub mod Naturals
pub mod Truncating
pub mod Closed
