-- The definitions of this crate: what the writer answers, in numbers, and a field's overflowed places.
pub mod Answers
pub mod Overflowed
