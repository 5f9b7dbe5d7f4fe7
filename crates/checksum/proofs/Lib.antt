-- Laws on the sum by rows, and on the sum of a list that is no block. `Promises` gathers what the function promises.
pub mod Columns
pub mod Sums
pub mod Promises
