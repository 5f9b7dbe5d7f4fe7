-- Laws on the codes of kinds, on the items of two lists, on when a recipe is well formed, on the loop that looks, on
-- faults in the table's words and place by place, and on the values on hand. `Promises` states what the functions
-- promise, and `Unique` that their contracts leave one answer.
pub mod Codes
pub mod Items
pub mod Shapes
pub mod Turns
pub mod Told
pub mod Held
pub mod Faults
pub mod Promises
pub mod Unique
