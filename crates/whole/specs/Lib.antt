-- The definitions of this crate: Euclid's and the truncating quotient and remainder, the power, the logarithm.
pub mod DivMod
pub mod Power
pub mod Logarithm
