-- The definitions of this crate: what a run shows, and how the code stands for it.
pub mod Run
pub mod Machine
