-- Laws on written blocks and runs.
pub mod Counts
pub mod Sizes
pub mod Blocks
pub mod Back
pub mod Runs
pub mod Stages
pub mod Promises
pub mod Examples
