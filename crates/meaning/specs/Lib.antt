-- The definitions of this crate: what a recipe comes to over unlimited whole numbers, and how many steps that takes.
pub mod Meaning
pub mod Told
pub mod Faults
pub mod Count
pub mod Alone
pub mod Reaching
