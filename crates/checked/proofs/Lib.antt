-- The laws on checked values, each file standing on those above it. `Promises` states what the functions promise.
pub mod Arms
pub mod BothFit
pub mod Below
pub mod Halves
pub mod Limit
pub mod Squares
pub mod Powers
pub mod Logarithms
pub mod Standing
pub mod Refused
pub mod Known
pub mod Unique
pub mod Promises
pub mod Widths
pub mod Overflow
pub mod Examples
