-- The definitions of this crate: what a reading is, the order of readings, and a level's faults place by place.
pub mod Reading
pub mod Order
pub mod Level
