-- The definitions of this crate: the places of an edition, the layout of a block and when a block is sound, what reading it gives, the layout in
-- propositions, and runs of blocks.
pub mod Editions
pub mod Layout
pub mod Sound
pub mod Reading
pub mod Told
pub mod Runs
