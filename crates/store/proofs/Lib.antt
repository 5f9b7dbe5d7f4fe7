-- `Promises` gathers what the functions promise.
pub mod Promises
