-- A table by one computed test, and when a power fits. `Promises` states what the function and its table promise.
pub mod Table
pub mod Fits
pub mod Promises
