-- The laws on a run by single steps, each file standing on those above it.
pub mod Runs
pub mod Outcomes
pub mod Within
pub mod Powers
pub mod Logarithms
pub mod Work
pub mod Apart
pub mod Operations
pub mod Items
pub mod Agreement
pub mod Stops
pub mod Widths
