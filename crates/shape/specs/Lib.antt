-- The definitions of this crate: a recipe's items, the kinds that the code knows, when a recipe is well formed, what its functions answer in numbers, and the faults place by place.
pub mod Items
pub mod Kinds
pub mod Shape
pub mod Answers
pub mod Faults
