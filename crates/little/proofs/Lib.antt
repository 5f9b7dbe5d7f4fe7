-- Laws on numbers as bytes: `Little` there and back, `Parts` on lists laid part after part, `Longs` on numbers one
-- after the other, `Listed` bytes given one by one, `Zeros` and `Joined` on bytes that are zero, `Changed` on one byte
-- changed, `Stored` on bytes stored in a list. `Promises` says what the functions promise, and `Unique` that a contract
-- on a value or a list leaves one.
pub mod Little
pub mod Parts
pub mod Longs
pub mod Listed
pub mod Zeros
pub mod Joined
pub mod Changed
pub mod Stored
pub mod Unique
pub mod Promises
