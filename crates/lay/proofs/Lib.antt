-- Laws on a block laid part after part. `Promises` gathers what the function promises.
pub mod Laid
pub mod Promises
