-- The definitions of this crate: a run's single steps, and what a run shows between two of them.
pub mod Steps
pub mod Shown
