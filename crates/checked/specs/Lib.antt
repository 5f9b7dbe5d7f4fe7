-- The definitions of this crate: checked values over a limit, what an operation answers, how a value goes from one
-- width to another, upstream's clauses on a type of them, and the parts of a product from halves.
pub mod Value
pub mod Paper
pub mod Pair
pub mod Widths
pub mod Clauses
pub mod Halves
